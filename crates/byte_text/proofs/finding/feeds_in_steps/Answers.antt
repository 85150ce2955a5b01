-- The bytes of a step, and those behind it, have together what the rest had.
use Rattle.std.proofs.Common.{take, ap, arith, length-take}
use Rattle.std.proofs.lemmas.List.{take_rest}
use Rattle.metering_model.specs.Transcript.{line_count}
use Rattle.byte_text.proofs.LineFeeds.{few, in_parts}
use Rattle.byte_text.proofs.finding.feeds_in_steps.Goals as goal

pub loop-rest-preserved : goal.loop-rest-preserved
loop-rest-preserved g c =
    let n = g.row.LANES in
    let rest = c.loop-rest.rest.now in
    let step = c.feeds_in_step-count.ensures in
    let left = ap line_count (take_rest rest n) in
    let most = few (take n rest) in (
      omega (arith, c.loop-rest.invariant.0, step, left, in_parts n rest),
      omega (arith, c.loop-rest.invariant.1, step, most, length-take n rest, c.loop-rest-test.true),
    )

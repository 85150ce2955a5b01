-- A byte more is a line feed more just where it is one.
use Rattle.std.proofs.Common.{◌==◌, ap, arith}
use Rattle.std.proofs.lemmas.Bool.{ne_eqb}
use Rattle.std.proofs.lemmas.List.Sums.{count_by_more_no, count_by_more_yes}
use Rattle.byte_text.proofs.finding.feeds_by_bytes.Goals.{then-byte-eq10, else-byte-eq10}
use Rattle.byte_text.proofs.finding.feeds_by_bytes.Goals as goal

pub loop-byte-preserved : goal.loop-byte-preserved
loop-byte-preserved c =
    let text = c.args.text.now in
    let at = c.loop-byte.byte-index in
    elim c.if-byte-eq10.branch [
      | then-byte-eq10 w ↦
          let more = count_by_more_yes (λ x. x == 10) text at 0 c.loop-byte-test.true (ap (λ x. x == 10) w.if-byte-eq10.true) in
          (omega (arith, c.loop-byte.invariant.0, w.count-is, more), omega (arith, c.loop-byte.invariant.1, w.count-is))
      | else-byte-eq10 w ↦
          let more = count_by_more_no (λ x. x == 10) text at 0 c.loop-byte-test.true (ne_eqb _ _ w.if-byte-eq10.false) in
          (omega (arith, c.loop-byte.invariant.0, w.count-is, more), omega (arith, c.loop-byte.invariant.1, w.count-is))
    ]

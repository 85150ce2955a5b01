-- The first `=` among the bytes ends their key.
use Rattle.std.proofs.Common.{◌≡◌, min, take, sym, arith}
use Rattle.std.specs.List.{position_or_len}
use Rattle.std.proofs.lemmas.List.{length-take-le}
use Rattle.metering_model.specs.BatchReading.{is_equals_sign}
use Rattle.record_view.proofs.PlainTags.{key_before, no_key, no_key_at_front}
use Rattle.record_view.proofs.tags.plain_key.Goals as goal
use Rattle.record_view.proofs.tags.plain_key.Goals.{then-at-eq0-via-then-at-eq0, then-at-eq0-via-else-at-eq0+then-at-end}

pub returns-then-at-eq0 : goal.returns-then-at-eq0
returns-then-at-eq0 c =
    let part = take c.args.end c.args.text.now in
    let long = length-take-le c.args.end c.args.text.now c.requires.within in
    let at : min c.key_end-at.result c.args.end ≡ position_or_len is_equals_sign part = c.key_end-at.ensures in
    sym (elim c.then-at-eq0.branch [
      | then-at-eq0-via-then-at-eq0 w ↦ no_key_at_front part (omega (arith, at, w.if-at-eq0))
      | then-at-eq0-via-else-at-eq0+then-at-end w ↦ no_key part (omega (arith, at, long, w.if-at-end))
    ])

pub returns : goal.returns
returns c =
    let text = c.args.text.now in
    let at : min c.key_end-at.result c.args.end ≡ position_or_len is_equals_sign (take c.args.end text) = c.key_end-at.ensures in
    sym (key_before text c.args.end c.key_end-at.result c.requires.within (omega arith) (omega arith) (omega (arith, at)) c.requires.plain)

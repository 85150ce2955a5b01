use Rattle.std.proofs.Common.{refl, sym, ap, ◌∙◌}
use Rattle.metering_model.specs.BatchReading.{is_same}
use Rattle.sheet_text.specs.Names.{key_name}
use Rattle.fault_lines.proofs.KeyWalks.{next_left, none_passes, one_passes}
use Rattle.fault_lines.proofs.unknown_keys.is_taken.Goals as goal

pub loop-key-init : goal.loop-key-init
loop-key-init c = refl

pub returns-then-is_same : goal.returns-then-is_same
returns-then-is_same c =
    let same = c.is_same.ensures ∙ ap (is_same c.args.name.now) (c.as_bytes.ensures.value ∙ c.name.ensures) in
    one_passes (λ k. is_same c.args.name.now (key_name k)) c.args.taken.now c.loop-key.key-index _ _ c.loop-key-test.true refl c.loop-key.invariant (sym same ∙ c.if-is_same.true)

pub loop-key-preserved : goal.loop-key-preserved
loop-key-preserved c =
    let same = c.is_same.ensures ∙ ap (is_same c.args.name.now) (c.as_bytes.ensures.value ∙ c.name.ensures) in
    next_left (λ k. is_same c.args.name.now (key_name k)) c.args.taken.now c.loop-key.key-index _ _ c.loop-key-test.true refl c.loop-key.invariant (sym same ∙ c.if-is_same.false)

pub returns : goal.returns
returns c = none_passes (λ k. is_same c.args.name.now (key_name k)) c.args.taken.now c.loop-key.key-index c.loop-key-test.false c.loop-key.invariant

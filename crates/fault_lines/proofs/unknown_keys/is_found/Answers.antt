use Rattle.std.proofs.Common.{refl, sym, ◌∙◌}
use Rattle.fault_lines.specs.UnknownKeys.{is_key}
use Rattle.fault_lines.proofs.KeyWalks.{next_left, none_passes, one_passes}
use Rattle.fault_lines.proofs.unknown_keys.is_found.Goals as goal

pub loop-key-init : goal.loop-key-init
loop-key-init c = refl

pub returns-then-is_key : goal.returns-then-is_key
returns-then-is_key c =
    one_passes (is_key c.args.table.now c.args.name.now) c.args.found.now c.loop-key.key-index c.key-item.result c.key-item.result c.loop-key-test.true c.key-item.is c.loop-key.invariant (sym c.is_key.ensures ∙ c.if-is_key.true)

pub loop-key-preserved : goal.loop-key-preserved
loop-key-preserved c =
    next_left (is_key c.args.table.now c.args.name.now) c.args.found.now c.loop-key.key-index c.key-item.result c.key-item.result c.loop-key-test.true c.key-item.is c.loop-key.invariant (sym c.is_key.ensures ∙ c.if-is_key.false)

pub returns : goal.returns
returns c = none_passes (is_key c.args.table.now c.args.name.now) c.args.found.now c.loop-key.key-index c.loop-key-test.false c.loop-key.invariant

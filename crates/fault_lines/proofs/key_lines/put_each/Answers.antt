use Rattle.std.proofs.Common.{◌++◌, refl}
use Rattle.std.specs.List.{flat_map}
use Rattle.fault_lines.specs.UnknownKeys.{told_unknown}
use Rattle.fault_lines.proofs.KeyWalks.{none_left, one_more}
use Rattle.fault_lines.proofs.key_lines.put_each.Goals as goal

pub loop-key-preserved : goal.loop-key-preserved
loop-key-preserved c =
    one_more (told_unknown c.args.line) c.loop-key.told.items c.put_unknown.new.told.items (c.args.told.now.items ++ flat_map (told_unknown c.args.line) c.args.keys.now)
    c.args.keys.now c.loop-key.key-index c.key-item.result c.loop-key-test.true c.key-item.is c.in-Ok.ensures c.loop-key.invariant

pub returns : goal.returns
returns c =
    none_left (flat_map (told_unknown c.args.line)) c.loop-key.told.items (c.args.told.now.items ++ flat_map (told_unknown c.args.line) c.args.keys.now)
    c.args.keys.now c.loop-key.key-index c.loop-key-test.false refl c.loop-key.invariant

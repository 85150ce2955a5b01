use Rattle.std.proofs.Common.{sym, ◌∙◌}
use Rattle.std.specs.Option.{option_map}
use Rattle.group_node.specs.Packets.{packet_of}
use Rattle.group_process.proofs.AddedLaws.{learned_first}
use Rattle.group_process.proofs.taking.added_for.Goals as goal

pub returns-then-is_some : goal.returns-then-is_some
returns-then-is_some c =
    learned_first c.args.likely (option_map packet_of c.args.handled.now.sends) c.args.handled.now.learns (sym c.if-is_some.true ∙ c.is_some.ensures)

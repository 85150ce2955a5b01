-- Whether a reply is an export of the period.
use Rattle.std.proofs.Common.{rules}
use Rattle.schedule_player.proofs.rendered_once.is_export_of.Goals as goal

pub returns-in-Some-Some : goal.returns-in-Some-Some
returns-in-Some-Some c = search rules

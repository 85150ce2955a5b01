-- The lines of one part.
use Rattle.std.proofs.Common.{rules}
use Rattle.export_file.proofs.split.Room.fill.Goals as goal

pub returns-in-Ok : goal.returns-in-Ok
returns-in-Ok c = search rules

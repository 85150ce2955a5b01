-- The room of a number has that part.
use Rattle.std.proofs.Common.{rules}
use Rattle.export_file.proofs.split.fn.fill_rooms.par_for_each_mut.Goals as goal

pub returns : goal.returns
returns g c = search rules

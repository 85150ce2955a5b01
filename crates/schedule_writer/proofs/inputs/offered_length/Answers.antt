use Rattle.std.proofs.Common.{sym}
use Rattle.schedule_writer.proofs.ItemLaws.{extent_within}
use Rattle.schedule_writer.proofs.inputs.offered_length.Goals as goal

pub returns-in-Some-clause-within : goal.returns-in-Some-clause-within
returns-in-Some-clause-within c = extent_within c.args.text.now c.in-Some.length (sym c.in-Some.ensures)

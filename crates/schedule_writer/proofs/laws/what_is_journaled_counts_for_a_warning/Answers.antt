use Rattle.schedule_writer.specs.Inner.SaidLines.{warned_of_refused}
use Rattle.schedule_writer.proofs.CheckLaws.{warned_of_read}
use Rattle.schedule_writer.proofs.WarningLaws.{counts_what_is_journaled}
use Rattle.schedule_writer.proofs.laws.what_is_journaled_counts_for_a_warning.Goals as goal

pub returns : goal.returns
returns c = record { refused = warned_of_refused; told = warned_of_read; counted = counts_what_is_journaled }

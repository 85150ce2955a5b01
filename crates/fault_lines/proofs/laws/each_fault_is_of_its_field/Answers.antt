use Rattle.fault_lines.proofs.FieldLines.{each_fault}
use Rattle.fault_lines.proofs.laws.each_fault_is_of_its_field.Goals as goal

pub returns : goal.returns
returns c = record { field = each_fault }

use Rattle.input_check.proofs.ReasonLaws.{issuer_reason, sheet_reason}
use Rattle.input_check.proofs.laws.each_reason_is_of_its_section.Goals as goal

pub returns : goal.returns
returns c = record { sheet = sheet_reason; issuer = issuer_reason }

use Rattle.sheet_changes.proofs.CommitmentLaws.{goes_on_from_none}
use Rattle.sheet_changes.proofs.LikenessLaws.{goes_on_by}
use Rattle.sheet_changes.proofs.laws.likeness.Goals as goal

pub returns : goal.returns
returns c = record { days = goes_on_by; commitment = goes_on_from_none }

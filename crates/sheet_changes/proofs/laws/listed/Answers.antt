use Rattle.sheet_changes.proofs.ListedLaws.{goes_on_unlisted}
use Rattle.sheet_changes.proofs.OneListing.{one_listing}
use Rattle.sheet_changes.proofs.laws.listed.Goals as goal

pub returns : goal.returns
returns c = record { days = λ old new day old_ok new_ok. goes_on_unlisted old new old_ok new_ok day; only = one_listing }

use Rattle.std.proofs.Common.{◌≡◌, ℤ, take}
use Rattle.std.specs.List.{list_all}
use Rattle.batch_view.specs.Inner.Kept.{is_before}
use Rattle.batch_view.specs.Inner.Amended.{entry_before}
use Rattle.batch_view.proofs.amendments.latest_start.Given as goal

-- the latest start so far
abbrev pub invariant-loop-entry : goal.invariant-loop-entry
invariant-loop-entry l = (moment : ℤ) → list_all (entry_before moment) (take l.entry-index l.entries) ≡ is_before moment l.latest

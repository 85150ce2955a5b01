-- Whole answers, however many.
use Rattle.std.proofs.Common.{◌≡◌, ◌⊎◌, ℕ, List, Option, inl, inr}
use Rattle.process_player.specs.declared.faults.ProcessFault.{ProcessFault}
use Rattle.process_player.specs.declared.heads.ProcessKind.{ProcessKind}
use Rattle.process_player.specs.Runs.{HasAnswered, RunsWhole, StaysUnbegun}

-- What a call that stops leaves, whatever stopped it, and whatever it left to read.
pub has_answered : {W : Type 0} {why : ProcessFault} {writer writer' : W} (k : ProcessKind) (known left old new : Option (List ℕ))
    → StaysUnbegun k why known left writer writer' ⊎ RunsWhole k why known left old new → (writer' ≡ writer) ⊎ HasAnswered k known old new
has_answered k known left old new (inl it) = inl it.unwritten
has_answered {why = why} k known left old new (inr it) = inr (record { why = why; left = left; whole = it })

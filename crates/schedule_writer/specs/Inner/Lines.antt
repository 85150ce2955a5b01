-- What is answered to a journal, and for which record it is refused.
use Rattle.std.specs.Prelude.{◌≡◌, ◌⊎◌, ℕ, Bool, true, false, List, Option}
use Rattle.metering_model.specs.World.{World, Reply, Refused}
use Rattle.metering_model.specs.declared.Refusal.{Refusal}
use Rattle.metering_model.specs.declared.Refusal.TheVariants.{BadTarget, Unpriced}
use Rattle.fault_lines.specs.Told.{bad_index}
use Rattle.schedule_writer.specs.Refusals.{IsJournaled}

abbrev pub IsAnswer : Reply → Type 0
IsAnswer reply = IsJournaled reply ⊎ ((why : Refusal) × (reply ≡ Refused why))

abbrev pub is_of_rule : Refusal → Bool
is_of_rule BadTarget = true
is_of_rule Unpriced = true
is_of_rule other = false

-- Where a text is refused for a rule of the journals, this is the index of its batch's first bad record.
abbrev pub IsBadIn : World → List ℕ → Refusal → Option ℕ → Type 0
IsBadIn w text why bad = is_of_rule why ≡ true → bad ≡ bad_index w.sheet w.journals text

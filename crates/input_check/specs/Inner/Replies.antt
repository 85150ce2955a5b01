-- Replies that refuse a batch for a rule of the journals.
use Rattle.std.specs.Prelude.{◌≡◌, ℕ, Bool, true, false, List, Option}
use Rattle.metering_model.specs.Schedule.{Planned, PlansJournal, lines_text}
use Rattle.metering_model.specs.World.{World, Reply, Refused}
use Rattle.metering_model.specs.declared.Refusal.{Refusal}
use Rattle.metering_model.specs.declared.Refusal.TheVariants.{BadTarget, Unpriced}
use Rattle.fault_lines.specs.Told.{bad_index}

abbrev pub is_of_rule : Refusal → Bool
is_of_rule BadTarget = true
is_of_rule Unpriced = true
is_of_rule other = false

abbrev pub breaks_rule : Reply → Bool
breaks_rule (Refused why) = is_of_rule why
breaks_rule other = false

-- Where a journal is refused for a rule, this is the index of its batch's first bad record.
abbrev pub IsBadIn : World → Planned → Refusal → Option ℕ → Type 0
IsBadIn w e why bad = (ls : List (List ℕ)) → e ≡ PlansJournal ls → is_of_rule why ≡ true → bad ≡ bad_index w.sheet w.journals (lines_text ls)

-- Values of one batch's readings, by index, that are filled where nothing stands, with what amendments give.
use Rattle.std.specs.Prelude.{◌≡◌, ℕ, ◌==◌, ◌||◌, nat_lt, not, if◌then◌else◌, All, Bool, true, false, List, Option, Some, None, ℤ}
use Rattle.std.specs.Option.{option_or}
use Rattle.batch_view.specs.declared.owned.Amendment.{Amendment}
use Rattle.batch_view.specs.Inner.Amended.{Names, IsLastNamed}

-- what stands at an index once the amendment's value was filled in
abbrev pub filled_by : Amendment → ℕ → Option ℤ → Option ℤ
filled_by a k old = if a.index == k then option_or old (Some a.value) else old

-- whether the amendment gives the reading that it names its value: in the reading's own batch only where it stands below it
abbrev pub has_effect : Bool → Amendment → Bool
has_effect own a = not own || nat_lt a.index a.own

-- the value that the last of the amendments gives the reading at that sequence and index, if one does
abbrev pub IsGiven : List Amendment → ℕ → Bool → ℕ → Option ℤ → Type 0
IsGiven sorted seq own k None = All (λ a. Names seq k a → has_effect own a ≡ false) sorted
IsGiven sorted seq own k (Some v) = (last : Amendment) × IsLastNamed sorted seq k last × (has_effect own last ≡ true) × (v ≡ last.value)

-- it was filled in where nothing stood
abbrev pub IsFilled : List Amendment → ℕ → Bool → ℕ → Option ℤ → Option ℤ → Type 0
IsFilled sorted seq own k old new = (given : Option ℤ) × IsGiven sorted seq own k given × (new ≡ option_or old given)

-- Amendments and latest starts, as the entries tell them.
use Rattle.std.specs.Prelude.{◌≡◌, ℕ, ◌+◌, ◌*◌, ◌<◌, ◌≤◌, nat_le, All, Bool, true, false, List, Option, Some, None, ℤ, int_lt}
use Rattle.std.specs.List.{Contains, filter_map, enumerate_from}
use Rattle.std.specs.List.Sorted.{IsPartitionPoint}
use Rattle.batch_view.specs.declared.entries.Found.{Found}
use Rattle.batch_view.specs.declared.entries.Found.TheVariants.{Reading, Amend}
use Rattle.batch_view.specs.declared.entries.Entry.{Entry}
use Rattle.batch_view.specs.declared.owned.Amendment.{Amendment}

abbrev pub amendment_found : ℕ → ℤ → Found → Option Amendment
amendment_found own value (Reading kind start end) = None
amendment_found own value (Amend seq index) = Some (record { seq = seq; index = index; value = value; own = own })

-- the amendments among the records, in order
abbrev pub amendments_kept : List Entry → List Amendment
amendments_kept es = filter_map (λ p. amendment_found p.0 p.1.value p.1.found) (enumerate_from 0 es)

-- a number that rises with the position that an amendment names, and then with its own index
abbrev pub rank_of : (seq index own : ℕ) → ℕ
rank_of seq index own = (seq * 65_536 + index) * 65_536 + own

abbrev pub rank : Amendment → ℕ
rank a = rank_of a.seq a.index a.own

-- the amendment names that position of its agent
abbrev pub Names : ℕ → ℕ → Amendment → Type 0
Names seq index a = (a.seq ≡ seq) × (a.index ≡ index)

-- those before the place have a rank up to the greatest of the position, and the others a greater one
abbrev pub IsPointOf : ℕ → ℕ → List Amendment → ℕ → Type 0
IsPointOf seq index xs b =
    IsPartitionPoint (λ y. nat_le (rank y) (rank_of seq index 65_535) ≡ true) (λ y. nat_le (rank y) (rank_of seq index 65_535) ≡ false) xs b

-- It names the position, and none that does stands behind it in the batch.
pub record IsLastNamed (sorted : List Amendment) (seq index : ℕ) (last : Amendment) : Type 0 where
  pub found : Contains sorted last
  pub named : Names seq index last
  pub others : All (λ a. Names seq index a → a.own ≤ last.own) sorted

-- its rank tells its parts
abbrev pub IsSmall : Amendment → Type 0
IsSmall a = (a.index < 65_536) × (a.own < 65_536)

abbrev pub found_before : ℤ → Found → Bool
found_before moment (Reading kind start end) = int_lt start moment
found_before moment (Amend seq index) = true

-- whether the record starts before that moment, if it is a reading
abbrev pub entry_before : ℤ → Entry → Bool
entry_before moment e = found_before moment e.found

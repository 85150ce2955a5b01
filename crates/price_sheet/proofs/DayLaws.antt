-- Starts that rise: those that a map has, the last one until a day, and one more among them.
use Rattle.std.proofs.Common.{◌≡◌, ℕ, Bool, true, false, not, List, [], ◌∷◌, ◌++◌, filter, Option, Some, None, is_some, ℤ, int_le, int_lt, if◌then◌else◌, refl, arith}
use Rattle.std.specs.List.{list_all}
use Rattle.std.specs.Map.{lookup}
use Rattle.std.specs.Ordering.{int_cmp, is_lt}
use Rattle.std.specs.BTreeMap.{is_at, insert_entry}
use Rattle.std.proofs.lemmas.Bool.{and_parts}
use Rattle.std.proofs.lemmas.Int.{ints}
use Rattle.price_sheet.specs.declared.price_in_force.Start.{Start}
use Rattle.price_sheet.specs.Inner.Days.{starts_in, rise, begun, with_start}

-- ---- where starts rise

none_yet : (day : ℤ) (ss : List Start) (end : ℤ) → list_all (λ t. int_lt end t.day) ss ≡ true → int_le end day ≡ false → begun day ss ≡ None
none_yet day [] end h late = refl
none_yet day (s ∷ ss) end h late = grind (arith, ints, h, late)

begun_from : (day : ℤ) (ss : List Start) (end : ℤ) (found : Start) → list_all (λ t. int_lt end t.day) ss ≡ true → begun day ss ≡ Some found → int_lt end found.day ≡ true
begun_from day [] end found h is = absurd (cc)
begun_from day (s ∷ ss) end found h is = by (begun day ss) refl (begun_from day ss end)
  where
    by : (rest : Option Start) → begun day ss ≡ rest → ((later : Start) → list_all (λ t. int_lt end t.day) ss ≡ true → begun day ss ≡ Some later → int_lt end later.day ≡ true) → int_lt end found.day ≡ true
    by None e rest = grind (arith, ints, h, is, e)
    by (Some later) e rest = grind (arith, ints, h, is, e, rest later)

-- ---- the last one until a day

abbrev pub until : ℤ → List (ℤ × ℕ) → List (ℤ × ℕ)
until day es = filter (λ e. not (is_lt (int_cmp day e.0))) es

pub none_until : (day : ℤ) (es : List (ℤ × ℕ)) → until day es ≡ [] → begun day (starts_in es) ≡ None
none_until day [] h = refl
none_until day (e ∷ es) h = grind (arith, ints, h)

last_here : (day : ℤ) (d : ℤ × ℕ) (es t : List (ℤ × ℕ)) (e : ℤ × ℕ) (b : Bool) → not (is_lt (int_cmp day d.0)) ≡ b → rise (starts_in (d ∷ es)) ≡ true → until day (d ∷ es) ≡ t ++ e ∷ []
    → ((u : List (ℤ × ℕ)) → until day es ≡ u ++ e ∷ [] → begun day (starts_in es) ≡ Some (record { day = e.0; place = e.1 })) → begun day (starts_in (d ∷ es)) ≡ Some (record { day = e.0; place = e.1 })
last_here day d es [] e true within h is before = grind (arith, ints, is, within, none_until day es)
last_here day d es (x ∷ t) e true within h is before = grind (arith, ints, is, within, before t)
last_here day d es t e false past h is before = grind (arith, ints, h, is, past, before t, none_yet day (starts_in es) d.0)

pub last_until : (day : ℤ) (es t : List (ℤ × ℕ)) (e : ℤ × ℕ) → rise (starts_in es) ≡ true → until day es ≡ t ++ e ∷ [] → begun day (starts_in es) ≡ Some (record { day = e.0; place = e.1 })
last_until day [] [] e h is = absurd (cc)
last_until day [] (x ∷ t) e h is = absurd (cc)
last_until day (d ∷ es) t e h is = last_here day d es t e (not (is_lt (int_cmp day d.0))) refl h is (λ u. last_until day es u e (and_parts _ _ h).1)

-- ---- one more start

pub put_in : (es : List (ℤ × ℕ)) (start : Start) → is_some (lookup (is_at (int_cmp start.day)) es) ≡ false → starts_in (insert_entry int_cmp es start.day start.place) ≡ with_start (starts_in es) start
put_in [] start new = refl
put_in (e ∷ es) start new = grind (arith, ints, new, put_in es start)

found_past : (es : List (ℤ × ℕ)) (start : Start) (end : ℤ) → is_some (lookup (is_at (int_cmp start.day)) es) ≡ true → list_all (λ t. int_lt end t.day) (starts_in es) ≡ true → int_lt end start.day ≡ true
found_past [] start end found h = absurd (cc)
found_past (e ∷ es) start end found h = grind (arith, ints, found, h, found_past es start end)

pub stays : (es : List (ℤ × ℕ)) (start : Start) → rise (starts_in es) ≡ true → is_some (lookup (is_at (int_cmp start.day)) es) ≡ true → with_start (starts_in es) start ≡ starts_in es
stays [] start h found = absurd (cc)
stays (e ∷ es) start h found = grind (arith, ints, h, found, found_past es start e.0, stays es start)

all_put : (p : Start → Bool) (ss : List Start) (start : Start) → list_all p ss ≡ true → p start ≡ true → list_all p (with_start ss start) ≡ true
all_put p [] start h this = grind (arith, this)
all_put p (s ∷ ss) start h this = grind (arith, h, this, all_put p ss start)

later_all : (day end : ℤ) (ss : List Start) → int_lt day end ≡ true → list_all (λ t. int_lt end t.day) ss ≡ true → list_all (λ t. int_lt day t.day) ss ≡ true
later_all day end [] lt h = refl
later_all day end (s ∷ ss) lt h = grind (arith, ints, lt, h, later_all day end ss)

pub still_rise : (ss : List Start) (start : Start) → rise ss ≡ true → rise (with_start ss start) ≡ true
still_rise [] start h = refl
still_rise (s ∷ ss) start h = grind (arith, ints, h, still_rise ss start, all_put (λ t. int_lt s.day t.day) ss start, later_all start.day s.day ss)

-- ---- the last one that has begun, with one start more

-- of the start that was found and one more, the one of the later day; the first, where they are of one day
abbrev pub later_start : Option Start → Start → Start
later_start None start = start
later_start (Some found) start = if int_lt found.day start.day then start else found

pub begun_with : (day : ℤ) (ss : List Start) (start : Start) → rise ss ≡ true → begun day (with_start ss start) ≡ (if int_le start.day day then Some (later_start (begun day ss) start) else begun day ss)
begun_with day [] start h = refl
begun_with day (s ∷ ss) start h = by (begun day ss) refl (begun_with day ss start (and_parts _ _ h).1) (none_yet day ss s.day) (begun_from day ss s.day)
  where
    by : (rest : Option Start) → begun day ss ≡ rest
        → begun day (with_start ss start) ≡ (if int_le start.day day then Some (later_start (begun day ss) start) else begun day ss)
        → (list_all (λ t. int_lt s.day t.day) ss ≡ true → int_le s.day day ≡ false → begun day ss ≡ None)
        → ((found : Start) → list_all (λ t. int_lt s.day t.day) ss ≡ true → begun day ss ≡ Some found → int_lt s.day found.day ≡ true)
        → begun day (with_start (s ∷ ss) start) ≡ (if int_le start.day day then Some (later_start (begun day (s ∷ ss)) start) else begun day (s ∷ ss))
    by None e step none from = grind (arith, ints, h, e, step, none)
    by (Some later) e step none from = grind (arith, ints, h, e, step, from later)

-- The rows between two cuts under two sheets, pair by pair.
use Rattle.std.proofs.Common.{◌≡◌, ℕ, Bool, true, false, List, [], ◌∷◌, get_or, map, refl, ap, ap₂, subst, Option, Some, None, ℤ, pos, option_map, nat_lt}
use Rattle.std.specs.Prelude.{All, if◌then◌else◌}
use Rattle.std.specs.List.{AllZip, filter_map, cons_option}
use Rattle.std.proofs.lemmas.List.Elements.{All-nil, All-cons, All-head, All-tail}
use Rattle.metering_model.specs.Batch.{Record, Reading, Reads, Amends}
use Rattle.metering_model.specs.Cut.{Cut, last_of}
use Rattle.metering_model.specs.Sheet.{Sheet, Issuer}
use Rattle.metering_model.specs.Holding.{Holding, Position, Placed, records_in_order, up_to, reading_at}
use Rattle.metering_model.specs.declared.BrokenRule.TheVariants.{Unpriced}
use Rattle.metering_model.specs.JournalRules.{MeetsJournalRules, is_fit_reading, broken_by, first_broken}
use Rattle.metering_model.specs.ValueAtSequence.{value_at}
use Rattle.metering_model.specs.declared.ChargeClass.{ChargeClass}
use Rattle.metering_model.specs.declared.ChargeClass.TheVariants.{New, Correction}
use Rattle.metering_model.specs.Row.{Row, row}
use Rattle.metering_model.specs.Rows.{PlacedRow, differ, row_of_reading, row_of, placed_row, placed_rows, rows}
use Rattle.metering_model.proofs.Journals.{or_next_parts}
use Rattle.sheet_laws.specs.Longer.{GoesOnFrom, NamesAllAlike}
use Rattle.sheet_laws.specs.Pairs.{IsPricedBefore, StayAlike}
use Rattle.sheet_laws.proofs.FoundReadings.{above_too, readings_found}
use Rattle.sheet_laws.proofs.TwoRows.{same_price, same_name, alike_but_prices, alike_but_region, alike}

-- ---- lists of what two functions give of the same items

abbrev Matches : {A B : Type 0} → (A → B → Type 0) → Option A → Option B → Type 0
Matches R None None = Unit {0}
Matches R None (Some y) = ⊥
Matches R (Some x) None = ⊥
Matches R (Some x) (Some y) = R x y

zipped : {A B C : Type 0} (R : B → C → Type 0) (f : A → Option B) (g : A → Option C) (xs : List A) → All (λ x. Matches R (f x) (g x)) xs → AllZip R (filter_map f xs) (filter_map g xs)
zipped R f g [] all = tt
zipped {A} {B} {C} R f g (x ∷ xs) all =
    onto (f x) (g x) (filter_map f xs) (filter_map g xs) (All-head (λ (a : A). Matches R (f a) (g a)) x xs all) (zipped R f g xs (All-tail (λ (a : A). Matches R (f a) (g a)) x xs all))
  where
    onto : (o : Option B) (p : Option C) (ys : List B) (zs : List C) → Matches R o p → AllZip R ys zs → AllZip R (cons_option o ys) (cons_option p zs)
    onto None None ys zs h rest = rest
    onto None (Some z) ys zs h rest = absurd h
    onto (Some y) None ys zs h rest = absurd h
    onto (Some y) (Some z) ys zs h rest = (h, rest)

given_alike : {A B : Type 0} (f g : A → Option B) (xs : List A) → All (λ x. g x ≡ f x) xs → filter_map g xs ≡ filter_map f xs
given_alike f g [] all = refl
given_alike {A} f g (x ∷ xs) all =
    ap₂ cons_option (All-head (λ (a : A). g a ≡ f a) x xs all) (given_alike f g xs (All-tail (λ (a : A). g a ≡ f a) x xs all))

-- ---- readings of journals that meet their rules

abbrev IsFit : Sheet → Placed → Type 0
IsFit sheet x = (r : Reading) → x.what ≡ Reads r → is_fit_reading sheet r ≡ true

fit : (b : Bool) → (if b then None else Some Unpriced) ≡ None → b ≡ true
fit true e = refl
fit false e = absurd (cc)

all_fit : (sheet : Sheet) (h : Holding) (xs : List Placed) → first_broken sheet h xs ≡ None → All (IsFit sheet) xs
all_fit sheet h [] e = All-nil (IsFit sheet)
all_fit sheet h (x ∷ xs) e =
    let parts = or_next_parts (broken_by sheet h x.place x.what) (first_broken sheet h xs) e in
    All-cons (IsFit sheet) x xs (λ r is. fit (is_fit_reading sheet r) (subst (λ what. broken_by sheet h x.place what ≡ None) is parts.0)) (all_fit sheet h xs parts.1)

fit_under : (sheet : Sheet) (h : Holding) → MeetsJournalRules sheet h → All (IsFit sheet) (records_in_order h)
fit_under sheet h rules = all_fit sheet h (records_in_order h) rules.none_broken

-- ---- rows

module _ (day : ℤ) (old new : Sheet) (goes : GoesOnFrom day old new) (issuer : Issuer) (h : Holding) (period : ℕ) (from to : Cut) where
  abbrev placed_at : Position → Row → PlacedRow
  placed_at at x = record { place = at; row = x }

  -- where all readings stay as they were, so do the rows
  module _ (fits : MeetsJournalRules old (up_to to h)) (before : (at : Position) (r : Reading) → reading_at (up_to to h) at ≡ Some r → IsPricedBefore day r) (names : NamesAllAlike old new (up_to to h)) where
    reading_stays : (at : Position) (r : Reading) → is_fit_reading old r ≡ true → reading_at (up_to to h) at ≡ Some r → row_of_reading new issuer h period from to at r ≡ row_of_reading old issuer h period from to at r
    reading_stays at r is_fit found =
        let was = value_at h at (last_of from at.agent) in
        let now = value_at h at (last_of to at.agent) in
        let same = alike day old new goes r is_fit issuer period in
        ap₂ (λ (x y : Row). if nat_lt (last_of from at.agent) at.seq then Some x else (if differ was now then Some y else None))
        (same New (pos 0) now (before at r found) (names at r found))
        (same Correction was now (before at r found) (names at r found))

    record_stays : (at : Position) (what : Record) → ((r : Reading) → what ≡ Reads r → is_fit_reading old r ≡ true) → ((r : Reading) → what ≡ Reads r → reading_at (up_to to h) at ≡ Some r) →
        option_map (placed_at at) (row_of new issuer h period from to at what) ≡ option_map (placed_at at) (row_of old issuer h period from to at what)
    record_stays at (Reads r) is_fit found = ap (option_map (placed_at at)) (reading_stays at r (is_fit r refl) (found r refl))
    record_stays at (Amends seq index value) is_fit found = refl

    pub placed_rows_stay : placed_rows new issuer h period from to ≡ placed_rows old issuer h period from to
    placed_rows_stay =
        given_alike (placed_row old issuer h period from to) (placed_row new issuer h period from to) (records_in_order (up_to to h)) (λ k d inside.
        let x = get_or (records_in_order (up_to to h)) k d in
        record_stays x.place x.what (fit_under old (up_to to h) fits k d inside) (readings_found (up_to to h) fits.is_holding k d inside))

    pub rows_stay : rows new issuer h period from to ≡ rows old issuer h period from to
    rows_stay = ap (map (λ (x : PlacedRow). x.row)) placed_rows_stay

  -- the rows of journals that meet the rules of both sheets as far as they are charged
  module _ (fits_old : MeetsJournalRules old (up_to to h)) (fits_new : MeetsJournalRules new (up_to to h)) where
    pair : (at : Position) (r : Reading) (class : ChargeClass) (was now : ℤ) → is_fit_reading old r ≡ true → is_fit_reading new r ≡ true → reading_at h at ≡ Some r →
        StayAlike day old new h (placed_at at (row old issuer r period class was now)) (placed_at at (row new issuer r period class was now))
    pair at r class was now is_fit fits_too found = record {
      place = refl;
      reading = r;
      there = found;
      columns = alike_but_prices day old new goes r is_fit issuer period class was now fits_too;
      same_price = alike_but_region day old new goes r is_fit issuer period class was now;
      prices = λ before. alike_but_region day old new goes r is_fit issuer period class was now (same_price day old new goes r is_fit before);
      region = same_name day old new goes r is_fit;
      whole = alike day old new goes r is_fit issuer period class was now;
    }

    reading_pairs : (at : Position) (r : Reading) → is_fit_reading old r ≡ true → is_fit_reading new r ≡ true → reading_at h at ≡ Some r →
        Matches (StayAlike day old new h) (option_map (placed_at at) (row_of_reading old issuer h period from to at r)) (option_map (placed_at at) (row_of_reading new issuer h period from to at r))
    reading_pairs at r is_fit fits_too found =
        by_tests (nat_lt (last_of from at.agent) at.seq) (differ was now) (pair at r New (pos 0) now is_fit fits_too found) (pair at r Correction was now is_fit fits_too found)
      where
        was : ℤ
        was = value_at h at (last_of from at.agent)

        now : ℤ
        now = value_at h at (last_of to at.agent)

        by_tests : {x y u v : Row} (a b : Bool) → StayAlike day old new h (placed_at at x) (placed_at at y) → StayAlike day old new h (placed_at at u) (placed_at at v) →
            Matches (StayAlike day old new h) (option_map (placed_at at) (if a then Some x else (if b then Some u else None))) (option_map (placed_at at) (if a then Some y else (if b then Some v else None)))
        by_tests true b first second = first
        by_tests false true first second = second
        by_tests false false first second = tt

    record_pairs : (at : Position) (what : Record) → ((r : Reading) → what ≡ Reads r → is_fit_reading old r ≡ true) → ((r : Reading) → what ≡ Reads r → is_fit_reading new r ≡ true) →
        ((r : Reading) → what ≡ Reads r → reading_at h at ≡ Some r) →
        Matches (StayAlike day old new h) (option_map (placed_at at) (row_of old issuer h period from to at what)) (option_map (placed_at at) (row_of new issuer h period from to at what))
    record_pairs at (Reads r) is_fit fits_too found = reading_pairs at r (is_fit r refl) (fits_too r refl) (found r refl)
    record_pairs at (Amends seq index value) is_fit fits_too found = tt

    pub rows_pair : AllZip (StayAlike day old new h) (placed_rows old issuer h period from to) (placed_rows new issuer h period from to)
    rows_pair =
        zipped (StayAlike day old new h) (placed_row old issuer h period from to) (placed_row new issuer h period from to) (records_in_order (up_to to h)) (λ k d inside.
        let x = get_or (records_in_order (up_to to h)) k d in
        record_pairs x.place x.what (fit_under old (up_to to h) fits_old k d inside) (fit_under new (up_to to h) fits_new k d inside)
        (λ r e. above_too h to x.place r (readings_found (up_to to h) fits_old.is_holding k d inside r e)))

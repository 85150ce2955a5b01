-- The prices of a SKU, and their starts, with one row more.
use Rattle.std.proofs.Common.{◌≡◌, ℕ, zero, suc, Bool, true, false, cond, ◌&&◌, ◌||◌, List, [], ◌∷◌, ◌++◌, length, filter, slice_get, Option, Some, None, ℤ, int_le, int_lt, if◌then◌else◌, append-nil, refl, ap, ◌∙◌, arith}
use Rattle.std.proofs.lemmas.Int.{ints}
use Rattle.std.proofs.lemmas.List.Elements.{filter-append}
use Rattle.std.proofs.lemmas.List.Folds.{list_any-append}
use Rattle.metering_model.specs.BatchReading.{is_same}
use Rattle.metering_model.specs.Sheet.{PriceRow}
use Rattle.metering_model.specs.PriceInForce.{later_of, latest}
use Rattle.price_sheet.specs.SheetReading.{prices_sku}
use Rattle.price_sheet.specs.declared.price_in_force.Start.{Start}
use Rattle.price_sheet.specs.Inner.Days.{with_start}
use Rattle.price_sheet.specs.Inner.Places.{Shows, AreStarts, starts_of}
use Rattle.price_sheet.proofs.DayLaws.{later_start, begun_with, still_rise}

-- ---- the latest row

abbrev later_row : Option PriceRow → PriceRow → PriceRow
later_row None row = row
later_row (Some best) row = if int_lt best.from row.from then row else best

one_later : (first : PriceRow) (found : Option PriceRow) (row : PriceRow) → later_of first (Some (later_row found row)) ≡ Some (later_row (later_of first found) row)
one_later first None row = grind (arith, ints)
one_later first (Some best) row = grind (arith, ints)

latest_push : (rows : List PriceRow) (row : PriceRow) → latest (rows ++ row ∷ []) ≡ Some (later_row (latest rows) row)
latest_push [] row = refl
latest_push (r ∷ rows) row = ap (later_of r) (latest_push rows row) ∙ one_later r (latest rows) row

push_if : (rows : List PriceRow) (row : PriceRow) (b : Bool) → latest (rows ++ cond b (row ∷ []) []) ≡ (if b then Some (later_row (latest rows) row) else latest rows)
push_if rows row true = latest_push rows row
push_if rows row false = ap latest (append-nil rows)

own_latest : (rows : List PriceRow) (row : PriceRow) (sku : List ℕ) (day : ℤ) → is_same row.sku sku ≡ true
    → latest (filter (λ r. is_same r.sku sku && int_le r.from day) (rows ++ row ∷ []))
    ≡ (if int_le row.from day then Some (later_row (latest (filter (λ r. is_same r.sku sku && int_le r.from day) rows)) row) else latest
    (filter (λ r. is_same r.sku sku && int_le r.from day) rows))
own_latest rows row sku day same = rw (filter-append (λ r. is_same r.sku sku && int_le r.from day) rows (row ∷ []), same) (push_if (filter (λ r. is_same r.sku sku && int_le r.from day) rows) row (int_le row.from day))

others_latest : (rows : List PriceRow) (row : PriceRow) (sku : List ℕ) (day : ℤ) → is_same row.sku sku ≡ false → latest (filter (λ r. is_same r.sku sku && int_le r.from day) (rows ++ row ∷ [])) ≡ latest (filter (λ r. is_same r.sku sku && int_le r.from day) rows)
others_latest rows row sku day other = rw (filter-append (λ r. is_same r.sku sku && int_le r.from day) rows (row ∷ []), other) (ap latest (append-nil (filter (λ r. is_same r.sku sku && int_le r.from day) rows)))

-- ---- rows and their starts

pub still_at : {A : Type 0} (xs ys : List A) (i : ℕ) (x : A) → slice_get xs i ≡ Some x → slice_get (xs ++ ys) i ≡ Some x
still_at [] ys i x h = absurd (cc)
still_at (a ∷ xs) ys zero x h = h
still_at (a ∷ xs) ys (suc i) x h = still_at xs ys i x h

pub last_at : {A : Type 0} (xs : List A) (x : A) → slice_get (xs ++ x ∷ []) (length xs) ≡ Some x
last_at [] x = refl
last_at (a ∷ xs) x = last_at xs x

still_shows : (rows : List PriceRow) (row : PriceRow) (start : Option Start) (shown : Option PriceRow) → Shows rows start shown → Shows (rows ++ row ∷ []) start shown
still_shows rows row None None h = tt
still_shows rows row None (Some shown) h = h
still_shows rows row (Some start) None h = h
still_shows rows row (Some start) (Some shown) h = (still_at rows (row ∷ []) start.place shown h.0, h.1)

shows_later : (rows : List PriceRow) (row : PriceRow) (place : ℕ) (start : Option Start) (shown : Option PriceRow) → place ≡ length rows → Shows rows start shown → Shows (rows ++ row ∷ []) (Some (later_start start (record { day = row.from; place = place }))) (Some (later_row shown row))
shows_later rows row place None None at h = (rw at (last_at rows row), refl)
shows_later rows row place None (Some shown) at h = absurd h
shows_later rows row place (Some start) None at h = absurd h
shows_later rows row place (Some start) (Some shown) at h = by (int_lt start.day row.from) (int_lt shown.from row.from) (ap (λ day. int_lt day row.from) h.1)
  where
    by : (a b : Bool) → a ≡ b → Shows (rows ++ row ∷ []) (Some (if a then (record { day = row.from; place = place }) else start)) (Some (if b then row else shown))
    by true true e = (rw at (last_at rows row), refl)
    by true false e = absurd (cc)
    by false true e = absurd (cc)
    by false false e = (still_at rows (row ∷ []) start.place shown h.0, h.1)

shows_if : (rows : List PriceRow) (row : PriceRow) (place : ℕ) (b : Bool) (start : Option Start) (shown : Option PriceRow) → place ≡ length rows → Shows rows start shown
    → Shows (rows ++ row ∷ []) (if b then Some (later_start start (record { day = row.from; place = place })) else start) (if b then Some (later_row shown row) else shown)
shows_if rows row place true start shown at h = shows_later rows row place start shown at h
shows_if rows row place false start shown at h = still_shows rows row start shown h

-- ---- the starts of a SKU

priced_push : (rows : List PriceRow) (row : PriceRow) (sku : List ℕ) → prices_sku (rows ++ row ∷ []) sku ≡ (prices_sku rows sku || (is_same row.sku sku || false))
priced_push rows row sku = list_any-append (λ p. is_same p.sku sku) rows (row ∷ [])

pub others_starts : (rows : List PriceRow) (row : PriceRow) (sku : List ℕ) (found : Option (List Start)) → is_same row.sku sku ≡ false → AreStarts rows sku found → AreStarts (rows ++ row ∷ []) sku found
others_starts rows row sku found other are = record {
  priced = grind (arith, are.priced, priced_push rows row sku, other);
  rising = are.rising;
  in_force = λ day. rw (others_latest rows row sku day other) (still_shows rows row _ _ (are.in_force day));
}

pub own_starts : (rows : List PriceRow) (row : PriceRow) (sku : List ℕ) (place : ℕ) (found : Option (List Start)) → is_same row.sku sku ≡ true
    → place ≡ length rows → AreStarts rows sku found
    → AreStarts (rows ++ row ∷ []) sku (Some (with_start (starts_of found) (record { day = row.from; place = place })))
own_starts rows row sku place found same at are = record {
  priced = grind (arith, priced_push rows row sku, same);
  rising = still_rise (starts_of found) (record { day = row.from; place = place }) are.rising;
  in_force = λ day. rw (own_latest rows row sku day same, begun_with day (starts_of found) (record { day = row.from; place = place }) are.rising) (shows_if rows row place (int_le row.from day) _ _ at (are.in_force day));
}

-- no rows have no starts
pub no_starts : (sku : List ℕ) → AreStarts [] sku None
no_starts sku = record { priced = refl; rising = refl; in_force = λ day. tt }

-- The places of rows with ids, with one row more.
use Rattle.std.proofs.Common.{◌≡◌, ℕ, Bool, true, false, cond, List, [], ◌∷◌, ◌++◌, length, find, slice_get, Option, Some, None, Ok, Err, is_some, Vec, if◌then◌else◌, refl, sym, ap, subst, ◌∙◌}
use Rattle.std.specs.List.{list_any}
use Rattle.std.specs.Option.{option_or, option_and_then}
use Rattle.std.proofs.lemmas.List.Folds.{find-append}
use Rattle.toml.specs.Data.{Members}
use Rattle.metering_model.specs.BatchReading.{is_same}
use Rattle.metering_model.specs.Sheet.{PriceRow, Commitment, Region}
use Rattle.metering_model.specs.FirstFailure.{◌>>=◌}
use Rattle.metering_model.proofs.StepLaws.{ok_step_from}
use Rattle.sheet_text.specs.declared.faults.SheetFault.{SheetFault}
use Rattle.price_sheet.specs.SheetReading.{next_commitment, commitments_in, next_region, regions_in}
use Rattle.price_sheet.specs.Inner.Places.{found_at, Puts, StandsAt, IndexesBy}
use Rattle.price_sheet.proofs.PlaceLaws.{same_texts}
use Rattle.price_sheet.proofs.RowLaws.{still_at, last_at}
use Rattle.price_sheet.proofs.SheetLaws.{same_comm}

-- the row at the place that is found
pub row_stands : {A : Type 0} (rows : List A) (place : Option ℕ) (row : Option A) → StandsAt rows place row → option_and_then (slice_get rows) place ≡ row
row_stands rows None None h = refl
row_stands rows None (Some row) h = absurd h
row_stands rows (Some place) None h = absurd h
row_stands rows (Some place) (Some row) h = h

both_or_none : {A : Type 0} (rows : List A) (place : Option ℕ) (row : Option A) → StandsAt rows place row → is_some place ≡ is_some row
both_or_none rows None None h = refl
both_or_none rows None (Some row) h = absurd h
both_or_none rows (Some place) None h = absurd h
both_or_none rows (Some place) (Some row) h = refl

found_is_any : {A : Type 0} (id : A → List ℕ) (rows : List A) (row : A) → is_some (find (λ c. is_same (id c) (id row)) rows) ≡ list_any (λ c. is_same (id row) (id c)) rows
found_is_any id [] row = refl
found_is_any id (c ∷ rows) row = by (is_same (id c) (id row)) refl (found_is_any id rows row)
  where
    by : (b : Bool) → is_same (id c) (id row) ≡ b → is_some (find (λ c. is_same (id c) (id row)) rows) ≡ list_any (λ c. is_same (id row) (id c)) rows → is_some (find (λ c. is_same (id c) (id row)) (c ∷ rows)) ≡ list_any (λ c. is_same (id row) (id c)) (c ∷ rows)
    by true e rest = rw (same_comm (id row) (id c), e) refl
    by false e rest = rw (same_comm (id row) (id c), e) rest

-- an earlier row has the id of this one where the id has a place
pub id_found : {A Z : Type 0} (id : A → List ℕ) (rows : List A) (row : A) (entries : List (Vec ℕ Z × ℕ)) → IndexesBy id rows entries → is_some (found_at (id row) entries) ≡ list_any (λ c. is_same (id row) (id c)) rows
id_found id rows row entries indexed = both_or_none rows (found_at (id row) entries) (find (λ c. is_same (id c) (id row)) rows) (indexed (id row)) ∙ found_is_any id rows row

still_stands : {A : Type 0} (rows : List A) (row : A) (place : Option ℕ) (at : Option A) → StandsAt rows place at → StandsAt (rows ++ row ∷ []) place at
still_stands rows row None None h = tt
still_stands rows row None (Some at) h = h
still_stands rows row (Some place) None h = h
still_stands rows row (Some place) (Some at) h = still_at rows (row ∷ []) place at h

new_stands : {A : Type 0} (rows : List A) (row : A) (place : ℕ) (found : Option A) → place ≡ length rows → is_some found ≡ false → StandsAt (rows ++ row ∷ []) (Some place) (option_or found (Some row))
new_stands rows row place None at new = rw at (last_at rows row)
new_stands rows row place (Some c) at new = absurd (cc)

or_none : {A : Type 0} (found : Option A) → option_or found None ≡ found
or_none None = refl
or_none (Some c) = refl

pub one_more_id : {A Z : Type 0} (key : A → List ℕ) (rows : List A) (row : A) (place : ℕ) (old new : List (Vec ℕ Z × ℕ)) → place ≡ length rows → list_any (λ c. is_same (key row) (key c)) rows ≡ false → IndexesBy key rows old
    → Puts (key row) place old new → IndexesBy key (rows ++ row ∷ []) new
one_more_id key rows row place old new at fresh indexed puts id = rw (puts id, find-append (λ c. is_same (key c) id) rows (row ∷ [])) (by (is_same (key row) id) refl)
  where
    by : (b : Bool) → is_same (key row) id ≡ b → StandsAt (rows ++ row ∷ []) (if b then Some place else found_at id old) (option_or (find (λ c. is_same (key c) id) rows) (cond b (Some row) None))
    by true same = new_stands rows row place (find (λ c. is_same (key c) id) rows) at (subst (λ t. is_some (find (λ c. is_same (key c) t) rows) ≡ false) (same_texts (key row) id same) (found_is_any key rows row ∙ fresh))
    by false other = rw (or_none (find (λ c. is_same (key c) id) rows)) (still_stands rows row (found_at id old) (find (λ c. is_same (key c) id) rows) (indexed id))

-- ---- reading one table more

pub commitment_step : (prices : List PriceRow) (rows : List Commitment) (table : Members) (row : Commitment) (rest : List Members) → next_commitment prices rows table ≡ Ok row → commitments_in prices (rows ++ row ∷ []) rest ≡ commitments_in prices rows (table ∷ rest)
commitment_step prices rows table row rest read = sym (ok_step_from (next_commitment prices rows table) (λ r. commitments_in prices (rows ++ r ∷ []) rest) row _ read refl)

pub region_step : (rows : List Region) (table : Members) (row : Region) (rest : List Members) → next_region rows table ≡ Ok row → regions_in (rows ++ row ∷ []) rest ≡ regions_in rows (table ∷ rest)
region_step rows table row rest read = sym (ok_step_from (next_region rows table) (λ r. regions_in (rows ++ r ∷ []) rest) row _ read refl)

-- and its fault is that of them all
pub commitment_fault : (prices : List PriceRow) (rows : List Commitment) (table : Members) (rest : List Members) (fault : SheetFault) → next_commitment prices rows table ≡ Err fault → commitments_in prices rows (table ∷ rest) ≡ Err fault
commitment_fault prices rows table rest fault read = ap (λ r. r >>= (λ row. commitments_in prices (rows ++ row ∷ []) rest)) read

pub region_fault : (rows : List Region) (table : Members) (rest : List Members) (fault : SheetFault) → next_region rows table ≡ Err fault → regions_in rows (table ∷ rest) ≡ Err fault
region_fault rows table rest fault read = ap (λ r. r >>= (λ row. regions_in (rows ++ row ∷ []) rest)) read

-- Looking among the rows by their index.
use Rattle.std.proofs.Common.{◌≡◌, ℕ, ◌+◌, Bool, true, false, ◌&&◌, List, [], ◌∷◌, ◌++◌, filter, slice_get, length, length-append, Option, Some, None, Result, Ok, Err, ℤ, int_le, int_eq, refl, sym, ap, arith}
use Rattle.std.specs.List.{list_any}
use Rattle.std.proofs.lemmas.Int.{ints}
use Rattle.toml.specs.Data.{Members}
use Rattle.metering_model.specs.BatchReading.{is_same}
use Rattle.metering_model.specs.Sheet.{PriceRow}
use Rattle.metering_model.specs.SheetRules.{has_same_key}
use Rattle.metering_model.specs.PriceInForce.{latest}
use Rattle.metering_model.specs.FirstFailure.{◌>>=◌}
use Rattle.metering_model.proofs.StepLaws.{ok_step_from, ok_same}
use Rattle.sheet_text.specs.declared.faults.SheetFault.{SheetFault}
use Rattle.price_sheet.specs.SheetReading.{next_price, prices_in}
use Rattle.price_sheet.specs.declared.price_in_force.Start.{Start}
use Rattle.price_sheet.specs.Inner.Places.{Shows}
use Rattle.price_sheet.proofs.SheetLaws.{same_comm}

-- the row that a start shows
pub shown : (rows : List PriceRow) (start : Start) (row : Option PriceRow) → Shows rows (Some start) row → slice_get rows start.place ≡ row
shown rows start None h = absurd h
shown rows start (Some row) h = h.0

pub none_shown : (rows : List PriceRow) (row : Option PriceRow) → Shows rows None row → None ≡ row
none_shown rows None h = refl
none_shown rows (Some row) h = absurd h

-- ---- a row of the SKU and the day

abbrev pub is_from : ℤ → Option PriceRow → Bool
is_from day None = false
is_from day (Some row) = int_eq row.from day

has_begun : (rows : List PriceRow) (sku : List ℕ) (day : ℤ) (found : PriceRow) → latest (filter (λ r. is_same r.sku sku && int_le r.from day) rows) ≡ Some found → int_le found.from day ≡ true
has_begun [] sku day found h = absurd (cc)
has_begun (r ∷ rows) sku day found h = by (is_same r.sku sku && int_le r.from day) refl (latest (filter (λ r. is_same r.sku sku && int_le r.from day) rows)) refl (has_begun rows sku day)
  where
    by : (b : Bool) → (is_same r.sku sku && int_le r.from day) ≡ b → (rest : Option PriceRow) → latest (filter (λ r. is_same r.sku sku && int_le r.from day) rows) ≡ rest
        → ((later : PriceRow) → latest (filter (λ r. is_same r.sku sku && int_le r.from day) rows) ≡ Some later → int_le later.from day ≡ true) → int_le found.from day ≡ true
    by true e None f before = grind (arith, ints, h, e, f)
    by true e (Some later) f before = grind (arith, ints, h, e, f, before later)
    by false e None f before = grind (arith, ints, h, e, f)
    by false e (Some later) f before = grind (arith, ints, h, e, f, before later)

-- an earlier row has the SKU and the day of this one where the price in force on its day is from that day
pub key_found : (rows : List PriceRow) (row : PriceRow) → list_any (has_same_key row) rows ≡ is_from row.from (latest (filter (λ r. is_same r.sku row.sku && int_le r.from row.from) rows))
key_found [] row = refl
key_found (r ∷ rows) row = by (is_same r.sku row.sku && int_le r.from row.from) refl (latest (filter (λ r. is_same r.sku row.sku && int_le r.from row.from) rows)) refl (has_begun rows row.sku row.from) (key_found rows row)
  where
    by : (b : Bool) → (is_same r.sku row.sku && int_le r.from row.from) ≡ b → (rest : Option PriceRow) → latest (filter (λ r. is_same r.sku row.sku && int_le r.from row.from) rows) ≡ rest
        → ((later : PriceRow) → latest (filter (λ r. is_same r.sku row.sku && int_le r.from row.from) rows) ≡ Some later → int_le later.from row.from ≡ true)
        → list_any (has_same_key row) rows ≡ is_from row.from (latest (filter (λ r. is_same r.sku row.sku && int_le r.from row.from) rows))
        → list_any (has_same_key row) (r ∷ rows) ≡ is_from row.from (latest (filter (λ r. is_same r.sku row.sku && int_le r.from row.from) (r ∷ rows)))
    by true e None f before rest = grind (arith, ints, e, f, rest, same_comm row.sku r.sku)
    by true e (Some later) f before rest = grind (arith, ints, e, f, before later, rest, same_comm row.sku r.sku)
    by false e None f before rest = grind (arith, ints, e, f, rest, same_comm row.sku r.sku)
    by false e (Some later) f before rest = grind (arith, ints, e, f, before later, rest, same_comm row.sku r.sku)

-- ---- reading one table more

pub price_step : (rows : List PriceRow) (table : Members) (row : PriceRow) (rest : List Members) → next_price rows table ≡ Ok row → prices_in (rows ++ row ∷ []) rest ≡ prices_in rows (table ∷ rest)
price_step rows table row rest read = sym (ok_step_from (next_price rows table) (λ r. prices_in (rows ++ r ∷ []) rest) row _ read refl)

pub price_fault : (rows : List PriceRow) (table : Members) (rest : List Members) (fault : SheetFault) → next_price rows table ≡ Err fault → prices_in rows (table ∷ rest) ≡ Err fault
price_fault rows table rest fault read = ap (λ r. r >>= (λ row. prices_in (rows ++ row ∷ []) rest)) read

-- the rows of one table more, and those of the tables behind it
pub prices_behind : (rows : List PriceRow) (table : Members) (more : List PriceRow) (rest : List Members) → prices_in rows (table ∷ []) ≡ Ok more → (prices_in more rest ≡ prices_in rows (table ∷ rest)) × (length more ≡ length rows + 1)
prices_behind rows table more rest h = by (next_price rows table) h
  where
    by : (read : Result PriceRow SheetFault) → (read >>= (λ row. Ok (rows ++ row ∷ []))) ≡ Ok more → (prices_in more rest ≡ (read >>= (λ row. prices_in (rows ++ row ∷ []) rest))) × (length more ≡ length rows + 1)
    by (Ok row) is = (ap (λ all. prices_in all rest) (sym (ok_same _ more is)), omega (arith, ap length (ok_same _ more is), length-append rows (row ∷ [])))
    by (Err fault) is = absurd (cc)

-- What rows add up to: of one reading in all the files up to a period, and of several rows.
use Rattle.std.specs.Prelude.{ℕ, ◌+◌, ◌<◌, List, [], ◌∷◌, ◌++◌, filter, map, fold, Option, ℤ, pos, ◌+ℤ◌, unsigned_abs, unwrap_or}
use Rattle.metering_model.specs.NumberText.{delta_limit, cost_limit}
use Rattle.metering_model.specs.Sheet.{Sheet, Issuer}
use Rattle.metering_model.specs.Cut.{Cut, zero_cut}
use Rattle.metering_model.specs.Holding.{Holding, Position, is_same_place}
use Rattle.metering_model.specs.Rating.{Rated}
use Rattle.metering_model.specs.Row.{Row}
use Rattle.metering_model.specs.Rows.{PlacedRow, placed_rows}

-- The six columns that add up: two quantities in millionths, four costs in units of 10^-12.
pub record Amounts : Type 0 where
  pub consumed : ℤ
  pub priced : ℤ
  pub list : ℤ
  pub contracted : ℤ
  pub billed : ℤ
  pub effective : ℤ

-- a null counts as 0
abbrev pub or_zero : Option ℤ → ℤ
or_zero quantity = unwrap_or quantity (pos 0)

abbrev pub amounts_of : Rated → Amounts
amounts_of x = record {
  consumed = or_zero x.consumed;
  priced = or_zero x.priced;
  list = x.list;
  contracted = x.contracted;
  billed = x.billed;
  effective = x.effective;
}

abbrev pub amounts_in : Row → Amounts
amounts_in r = record {
  consumed = or_zero r.consumed_quantity;
  priced = or_zero r.pricing_quantity;
  list = r.list_cost;
  contracted = r.contracted_cost;
  billed = r.billed_cost;
  effective = r.effective_cost;
}

abbrev pub sum_of : {A : Type 0} → (A → ℤ) → List A → ℤ
sum_of amount xs = fold (λ sum x. sum +ℤ amount x) (pos 0) xs

abbrev pub added_up : List Amounts → Amounts
added_up xs = record {
  consumed = sum_of (λ x. x.consumed) xs;
  priced = sum_of (λ x. x.priced) xs;
  list = sum_of (λ x. x.list) xs;
  contracted = sum_of (λ x. x.contracted) xs;
  billed = sum_of (λ x. x.billed) xs;
  effective = sum_of (λ x. x.effective) xs;
}

abbrev pub totals : List Row → Amounts
totals rows = added_up (map amounts_in rows)

-- Each quantity is below the limit of a difference, and each cost below that of a cost.
pub record AreWithinLimits (a : Amounts) : Type 0 where
  pub consumed : unsigned_abs a.consumed < delta_limit
  pub priced : unsigned_abs a.priced < delta_limit
  pub list : unsigned_abs a.list < cost_limit
  pub contracted : unsigned_abs a.contracted < cost_limit
  pub billed : unsigned_abs a.billed < cost_limit
  pub effective : unsigned_abs a.effective < cost_limit

-- the rows of this period and those after it, each between its cut and the one before it
abbrev pub rows_over : Sheet → Issuer → Holding → ℕ → Cut → List Cut → List PlacedRow
rows_over sheet issuer h period before [] = []
rows_over sheet issuer h period before (cut ∷ cuts) =
    placed_rows sheet issuer h period before cut ++ rows_over sheet issuer h (period + 1) cut cuts

-- those of the rows that stem from the reading at a place
abbrev pub at_place : Position → List PlacedRow → List Row
at_place at xs = map (λ x. x.row) (filter (λ x. is_same_place x.place at) xs)

-- the rows that stem from the reading at a place, over all cuts from period 0 on
abbrev pub rows_of_place : Sheet → Issuer → Holding → ℕ → List Cut → Position → List Row
rows_of_place sheet issuer h agents cuts at = at_place at (rows_over sheet issuer h 0 (zero_cut agents) cuts)

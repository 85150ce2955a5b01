-- The rows between two cuts.
use Rattle.std.specs.Prelude.{ℕ, Bool, ◌||◌, nat_lt, if◌then◌else◌, List, map, Option, Some, None, ℤ, pos, int_lt, option_map}
use Rattle.std.specs.List.{filter_map}
use Rattle.metering_model.specs.Batch.{Reading, Record, Reads, Amends}
use Rattle.metering_model.specs.Sheet.{Sheet, Issuer}
use Rattle.metering_model.specs.Cut.{Cut, last_of}
use Rattle.metering_model.specs.Holding.{Holding, Position, Placed, records_in_order, up_to}
use Rattle.metering_model.specs.ValueAtSequence.{value_at}
use Rattle.metering_model.specs.declared.ChargeClass.TheVariants.{New, Correction}
use Rattle.metering_model.specs.Row.{Row, row}

abbrev pub differ : ℤ → ℤ → Bool
differ a b = int_lt a b || int_lt b a

-- A reading above `from` is charged whole. One up to `from` is charged the difference of its values, where they differ.
abbrev pub row_of_reading : Sheet → Issuer → Holding → ℕ → Cut → Cut → Position → Reading → Option Row
row_of_reading sheet issuer h period from to at r =
    let was = value_at h at (last_of from at.agent) in
    let now = value_at h at (last_of to at.agent) in
    if nat_lt (last_of from at.agent) at.seq then Some (row sheet issuer r period New (pos 0) now)
    else (if differ was now then Some (row sheet issuer r period Correction was now) else None)

abbrev pub row_of : Sheet → Issuer → Holding → ℕ → Cut → Cut → Position → Record → Option Row
row_of sheet issuer h period from to at (Reads r) = row_of_reading sheet issuer h period from to at r
row_of sheet issuer h period from to at (Amends seq index value) = None

-- a row, and the position of the reading that it stems from
pub record PlacedRow : Type 0 where
  pub place : Position
  pub row : Row

abbrev pub placed_row : Sheet → Issuer → Holding → ℕ → Cut → Cut → Placed → Option PlacedRow
placed_row sheet issuer h period from to x =
    option_map (λ r. record { place = x.place; row = r }) (row_of sheet issuer h period from to x.place x.what)

-- a filter over all records up to the cut `to`, in journal order
abbrev pub placed_rows : Sheet → Issuer → Holding → ℕ → Cut → Cut → List PlacedRow
placed_rows sheet issuer h period from to = filter_map (placed_row sheet issuer h period from to) (records_in_order (up_to to h))

abbrev pub rows : Sheet → Issuer → Holding → ℕ → Cut → Cut → List Row
rows sheet issuer h period from to = map (λ x. x.row) (placed_rows sheet issuer h period from to)

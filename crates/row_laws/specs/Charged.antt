-- The files of all periods, and what their readings would be charged if each were charged once.
use Rattle.std.specs.Prelude.{ℕ, ◌+◌, Bool, List, [], ◌∷◌, Option, ℤ, pos, option_map}
use Rattle.std.specs.List.{filter_map, flat_map}
use Rattle.std.specs.Option.{is_none}
use Rattle.metering_model.specs.Batch.{Reading}
use Rattle.metering_model.specs.Sheet.{Sheet, Issuer}
use Rattle.metering_model.specs.Cut.{Cut, zero_cut, last_of}
use Rattle.metering_model.specs.Holding.{Holding, Placed, records_in_order, reading_of, up_to}
use Rattle.metering_model.specs.ValueAtSequence.{value_at}
use Rattle.metering_model.specs.Rating.{Rated}
use Rattle.metering_model.specs.Row.{Row, charge, priced_kind, price_of, commitment_of}
use Rattle.metering_model.specs.Rows.{rows}

-- the rows of the file of this period, and of those after it
abbrev pub files_over : Sheet → Issuer → Holding → ℕ → Cut → List Cut → List (List Row)
files_over sheet issuer h period before [] = []
files_over sheet issuer h period before (cut ∷ cuts) =
    rows sheet issuer h period before cut ∷ files_over sheet issuer h (period + 1) cut cuts

-- the rows of each period's file, from period 0 on
abbrev pub files : Sheet → Issuer → Holding → ℕ → List Cut → List (List Row)
files sheet issuer h agents cuts = files_over sheet issuer h 0 (zero_cut agents) cuts

abbrev pub all_rows : List (List Row) → List Row
all_rows files = flat_map (λ rows. rows) files

-- By FOCUS a row that corrects no earlier one has no ChargeClass: it charges its reading for the first time.
abbrev pub is_new : Row → Bool
is_new r = is_none r.charge_class

-- what a reading would be charged in one step, from 0 to a value
abbrev pub charged_at_once : Sheet → Reading → ℤ → Rated
charged_at_once sheet r value = charge (priced_kind r.kind) (price_of sheet r) (commitment_of sheet r) (pos 0) value

-- the same of a record, at its value as of a cut: an amendment is not charged by itself
abbrev pub charge_at : Sheet → Holding → Cut → Placed → Option Rated
charge_at sheet h cut x = option_map (λ r. charged_at_once sheet r (value_at h x.place (last_of cut x.place.agent))) (reading_of x.what)

-- each reading up to a cut, charged once
abbrev pub charges_up_to : Sheet → Holding → Cut → List Rated
charges_up_to sheet h cut = filter_map (charge_at sheet h cut) (records_in_order (up_to cut h))

-- Reading a price sheet: the sheet that a text is, or its first fault in the order in which it is read.
use Rattle.std.specs.Prelude.{ℕ, ◌+◌, Bool, not, List, [], ◌∷◌, ◌++◌, length, Option, Some, None, Result, Ok, Err}
use Rattle.std.specs.List.{list_any}
use Rattle.toml.specs.Data.{Members}
use Rattle.toml.specs.Parse.{parse_document}
use Rattle.metering_model.specs.FirstFailure.{◌>>=◌, holds_or}
use Rattle.metering_model.specs.BatchReading.{is_same}
use Rattle.metering_model.specs.Sheet.{PriceRow, Commitment, Region, Sheet}
use Rattle.metering_model.specs.SheetRules.{has_same_key, has_same_id, has_same_region}
use Rattle.sheet_text.specs.declared.faults.Place.{Place}
use Rattle.sheet_text.specs.declared.faults.Place.TheVariants as places
use Rattle.sheet_text.specs.declared.faults.SheetFault.{SheetFault}
use Rattle.sheet_text.specs.declared.faults.SheetFault.TheVariants as faults
use Rattle.sheet_text.specs.declared.keys.KeyFault.TheVariants as key_faults
use Rattle.sheet_text.specs.declared.names.Key.TheVariants as keys
use Rattle.sheet_text.specs.Keys.{base_under, rows_under}
use Rattle.sheet_text.specs.declared.keys.KeyFault.{KeyFault}
use Rattle.sheet_text.specs.RowReading.{price_row_in, commitment_in, region_in}

-- the fault of a key, told of the place of its table
abbrev pub fault_at : Place → KeyFault → SheetFault
fault_at place (key_faults.Missing key) = faults.Missing place key
fault_at place (key_faults.BadValue key) = faults.BadValue place key
fault_at place key_faults.OutOfMemory = faults.OutOfMemory

abbrev pub at_place : {A : Type 0} → Place → Result A KeyFault → Result A SheetFault
at_place place (Ok x) = Ok x
at_place place (Err fault) = Err (fault_at place fault)

-- Rows are counted from 1: the next one stands behind those that were read.
abbrev pub price_place : List PriceRow → Place
price_place rows = places.Price (length rows + 1)

abbrev pub commitment_place : List Commitment → Place
commitment_place rows = places.Commitment (length rows + 1)

abbrev pub region_place : List Region → Place
region_place rows = places.Region (length rows + 1)

-- what was read of one more table: a row that has not both SKU and day of an earlier one, or a fault
abbrev pub placed_price : List PriceRow → Result PriceRow KeyFault → Result PriceRow SheetFault
placed_price rows read = do
  row ← at_place (price_place rows) read
  _ ← holds_or (not (list_any (has_same_key row) rows)) (faults.Duplicate (price_place rows))
  Ok row

-- the row of one more table
unfoldable pub next_price : List PriceRow → Members → Result PriceRow SheetFault
next_price rows table = placed_price rows (price_row_in table)

-- whether some row prices the SKU
abbrev pub prices_sku : List PriceRow → List ℕ → Bool
prices_sku prices sku = list_any (λ p. is_same p.sku sku) prices

-- what was read of one more table: a commitment whose id no earlier one has, and whose two SKUs are priced, or a fault, which
-- tells the key of the first SKU that is not
abbrev pub placed_commitment : List PriceRow → List Commitment → Result Commitment KeyFault → Result Commitment SheetFault
placed_commitment prices rows read = do
  row ← at_place (commitment_place rows) read
  _ ← holds_or (not (list_any (has_same_id row) rows)) (faults.Duplicate (commitment_place rows))
  _ ← holds_or (prices_sku prices row.sku) (faults.UnknownSku (commitment_place rows) keys.Sku)
  _ ← holds_or (prices_sku prices row.buy) (faults.UnknownSku (commitment_place rows) keys.Buy)
  Ok row

-- the commitment of one more table
unfoldable pub next_commitment : List PriceRow → List Commitment → Members → Result Commitment SheetFault
next_commitment prices rows table = placed_commitment prices rows (commitment_in table)

-- what was read of one more table: a region whose id no earlier one has, or a fault
abbrev pub placed_region : List Region → Result Region KeyFault → Result Region SheetFault
placed_region rows read = do
  row ← at_place (region_place rows) read
  _ ← holds_or (not (list_any (has_same_region row) rows)) (faults.Duplicate (region_place rows))
  Ok row

-- the region of one more table
unfoldable pub next_region : List Region → Members → Result Region SheetFault
next_region rows table = placed_region rows (region_in table)

-- the rows that were read, and behind them those of the tables
abbrev pub prices_in : List PriceRow → List Members → Result (List PriceRow) SheetFault
prices_in rows [] = Ok rows
prices_in rows (table ∷ tables) = do
  row ← next_price rows table
  prices_in (rows ++ row ∷ []) tables

abbrev pub commitments_in : List PriceRow → List Commitment → List Members → Result (List Commitment) SheetFault
commitments_in prices rows [] = Ok rows
commitments_in prices rows (table ∷ tables) = do
  row ← next_commitment prices rows table
  commitments_in prices (rows ++ row ∷ []) tables

abbrev pub regions_in : List Region → List Members → Result (List Region) SheetFault
regions_in rows [] = Ok rows
regions_in rows (table ∷ tables) = do
  row ← next_region rows table
  regions_in (rows ++ row ∷ []) tables

abbrev pub empty_sheet : ℕ → Sheet
empty_sheet base = record { base = base; prices = []; commitments = []; regions = [] }

-- the sheet of the rows that these tables are: first the prices in order, then the commitments, then the regions
unfoldable pub sheet_of_rows : ℕ → List Members → List Members → List Members → Result Sheet SheetFault
sheet_of_rows base price_tables commitment_tables region_tables = do
  prices ← prices_in [] price_tables
  commitments ← commitments_in prices [] commitment_tables
  regions ← regions_in [] region_tables
  Ok (record { base = base; prices = prices; commitments = commitments; regions = regions })

-- the sheet that a table is: first what stands at the top, then the rows
unfoldable pub sheet_in : Members → Result Sheet SheetFault
sheet_in table = do
  base ← at_place places.Top (base_under keys.Base table)
  price_tables ← at_place places.Top (rows_under keys.Price table)
  commitment_tables ← at_place places.Top (rows_under keys.Commitment table)
  region_tables ← at_place places.Top (rows_under keys.Region table)
  sheet_of_rows base price_tables commitment_tables region_tables

abbrev pub sheet_of_document : Option Members → Result Sheet SheetFault
sheet_of_document None = Err faults.NotToml
sheet_of_document (Some table) = sheet_in table

-- the sheet that a text is, in the TOML that `toml` reads
unfoldable pub sheet_of_text : List ℕ → Result Sheet SheetFault
sheet_of_text text = sheet_of_document (parse_document text)

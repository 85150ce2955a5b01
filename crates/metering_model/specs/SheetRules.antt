-- When plain data is a price sheet, and when it is an issuer: what their readers take, and what laws over files rest on.
use Rattle.std.specs.Prelude.{◌≤◌, ◌<◌, ℕ, Bool, true, not, ◌&&◌, ◌==◌, nat_le, List, [], ◌∷◌, length, All, IsTrue, ℤ}
use Rattle.std.specs.List.{list_all, list_any}
use Rattle.std.specs.Ordering.{int_eq}
use Rattle.metering_model.specs.Limits.{most_sheet_rows, most_units}
use Rattle.metering_model.specs.NumberText.{price_limit}
use Rattle.metering_model.specs.Dates.{IsDayText, IsBaseMonth}
use Rattle.metering_model.specs.Batch.{is_empty}
use Rattle.metering_model.specs.BatchReading.{is_same}
use Rattle.metering_model.specs.Sheet.{PriceRow, Commitment, Region, Sheet, Issuer}

-- Of UTF-8 each byte of a character above U+007F is 128 or more: so no character is below U+0020, and none is U+007F.
-- That the bytes are UTF-8 is not said here, since no law rests on it: the type of a reader's texts keeps it.
abbrev pub is_printable : ℕ → Bool
is_printable byte = nat_le 32 byte && not (byte == 127)

-- a text of a sheet or an issuer: one or more characters, none of them a control character of ASCII
abbrev pub is_label : List ℕ → Bool
is_label t = not (is_empty t) && list_all is_printable t

-- a day of the calendar, in the years 0001 to 9999
abbrev pub IsDay : ℤ → Type 0
IsDay n = (text : List ℕ) × IsDayText text n

pub record IsPriceRow (p : PriceRow) : Type 0 where
  pub sku : IsTrue (is_label p.sku)
  pub price_id : IsTrue (is_label p.price_id)
  pub from : IsDay p.from
  pub description : IsTrue (is_label p.description)
  pub service : IsTrue (is_label p.service)
  pub consumed_unit : IsTrue (is_label p.consumed_unit)
  pub pricing_unit : IsTrue (is_label p.pricing_unit)
  pub per : (1 ≤ p.per) × (p.per ≤ most_units)
  pub list : p.list < price_limit
  pub contracted : p.contracted < price_limit

pub record IsCommitment (c : Commitment) : Type 0 where
  pub id : IsTrue (is_label c.id)
  pub sku : IsTrue (is_label c.sku)
  pub buy : IsTrue (is_label c.buy)
  pub kind : IsTrue (is_label c.kind)
  pub rate : c.rate < price_limit

pub record IsRegion (x : Region) : Type 0 where
  pub id : IsTrue (is_label x.id)
  pub name : IsTrue (is_label x.name)

-- no two of these are alike
abbrev pub are_apart : {A : Type 0} → (A → A → Bool) → List A → Bool
are_apart alike [] = true
are_apart alike (x ∷ xs) = not (list_any (alike x) xs) && are_apart alike xs

abbrev pub has_same_key : PriceRow → PriceRow → Bool
has_same_key p q = is_same p.sku q.sku && int_eq p.from q.from

abbrev pub has_same_id : Commitment → Commitment → Bool
has_same_id c d = is_same c.id d.id

abbrev pub has_same_region : Region → Region → Bool
has_same_region x y = is_same x.id y.id

-- whether some row prices the SKU, from whatever day on
abbrev pub has_price : Sheet → List ℕ → Bool
has_price sheet sku = list_any (λ p. is_same p.sku sku) sheet.prices

-- No SKU has two prices from one day on, and no id two commitments or two regions; what a commitment is on and what buys it
-- are priced.
pub record IsSheet (sheet : Sheet) : Type 0 where
  pub base : IsBaseMonth sheet.base
  pub prices : All IsPriceRow sheet.prices
  pub price_count : length sheet.prices ≤ most_sheet_rows
  pub one_price : IsTrue (are_apart has_same_key sheet.prices)
  pub commitments : All IsCommitment sheet.commitments
  pub commitment_count : length sheet.commitments ≤ most_sheet_rows
  pub one_id : IsTrue (are_apart has_same_id sheet.commitments)
  pub priced : All (λ c. IsTrue (has_price sheet c.sku && has_price sheet c.buy)) sheet.commitments
  pub regions : All IsRegion sheet.regions
  pub region_count : length sheet.regions ≤ most_sheet_rows
  pub one_region : IsTrue (are_apart has_same_region sheet.regions)

abbrev pub is_capital : ℕ → Bool
is_capital byte = nat_le 65 byte && nat_le byte 90

-- seven texts, of which the currency is three letters A to Z
pub record IsIssuer (i : Issuer) : Type 0 where
  pub provider : IsTrue (is_label i.provider)
  pub publisher : IsTrue (is_label i.publisher)
  pub issuer : IsTrue (is_label i.issuer)
  pub account_id : IsTrue (is_label i.account_id)
  pub account_name : IsTrue (is_label i.account_name)
  pub currency : IsTrue (list_all is_capital i.currency && (length i.currency == 3))
  pub other_service : IsTrue (is_label i.other_service)

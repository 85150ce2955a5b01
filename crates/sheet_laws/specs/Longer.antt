-- Sheets that go on from another: each price that was in force before a day, and each commitment, is there as it was.
use Rattle.std.specs.Prelude.{◌≡◌, ◌&&◌, ℕ, true, List, filter, All, Some, ℤ, pos, ◌<ℤ◌, ◌*ℤ◌, int_lt, option_map}
use Rattle.std.specs.Option.{is_some}
use Rattle.metering_model.specs.Batch.{Reading}
use Rattle.metering_model.specs.Sheet.{PriceRow, Commitment, Sheet}
use Rattle.metering_model.specs.PriceInForce.{price_in_force, commitment_with, region_named}
use Rattle.metering_model.specs.Holding.{Holding, Position, reading_at}
use Rattle.metering_model.specs.Row.{region_of}

-- the stamp at which a day begins
abbrev pub day_start : ℤ → ℤ
day_start day = day *ℤ pos 86_400

-- a price without the day that it is in force from, which no column shows
abbrev pub without_from : PriceRow → PriceRow
without_from p = record p { from = pos 0 }

-- The new sheet has the old one's base. Of each SKU and each day before that day, it has in force what the old one has in force,
-- but for the day that this is in force from; and it has each commitment of the old one. What only the new one has, it may have.
pub record GoesOnFrom (day : ℤ) (old new : Sheet) : Type 0 where
  pub base : new.base ≡ old.base
  pub prices : (sku : List ℕ) (before : ℤ) (p : PriceRow) → before <ℤ day → price_in_force old sku before ≡ Some p →
      option_map without_from (price_in_force new sku before) ≡ Some (without_from p)
  pub commitments : (id : List ℕ) (c : Commitment) → commitment_with old id ≡ Some c → commitment_with new id ≡ Some c

-- both give the region the same name, or none
abbrev pub NamesAlike : Sheet → Sheet → List ℕ → Type 0
NamesAlike old new id = region_named new id ≡ region_named old id

-- the region of the reading, where it has one, is named alike
abbrev pub NamesItAlike : Sheet → Sheet → Reading → Type 0
NamesItAlike old new r = (id : List ℕ) → region_of r ≡ Some id → NamesAlike old new id

-- so is that of each reading of a holding
abbrev pub NamesAllAlike : Sheet → Sheet → Holding → Type 0
NamesAllAlike old new h = (at : Position) (r : Reading) → reading_at h at ≡ Some r → NamesItAlike old new r

-- ---- what can be looked up of two sheets

-- the price rows that begin before a day, in the order of the sheet
abbrev pub rows_before : ℤ → Sheet → List PriceRow
rows_before day sheet = filter (λ p. int_lt p.from day) sheet.prices

-- Of these, those of the new sheet that begin where the old one has a price of their SKU in force. One that begins where it has none
-- prices what was refused.
abbrev pub rows_of_known : ℤ → Sheet → Sheet → List PriceRow
rows_of_known day old new = filter (λ p. int_lt p.from day && is_some (price_in_force old p.sku p.from)) new.prices

-- Both have the same rows from before the day, but for those of the new one that begin before any of their SKU in the old. Where a
-- row of the old one begins, the new one has a price in force. Each commitment and each region of the old one is found in the new by
-- its id.
pub record IsLonger (day : ℤ) (old new : Sheet) : Type 0 where
  pub base : new.base ≡ old.base
  pub before : rows_of_known day old new ≡ rows_before day old
  pub still : All (λ p. is_some (price_in_force new p.sku p.from) ≡ true) old.prices
  pub commitments : All (λ c. commitment_with new c.id ≡ Some c) old.commitments
  pub regions : All (λ x. region_named new x.id ≡ Some x.name) old.regions

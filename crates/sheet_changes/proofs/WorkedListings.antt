-- What is listed of the sheets of the examples.
use Rattle.std.proofs.Common.{◌≡◌, ℕ, zero, suc, [], ◌∷◌, ◌++◌, map, refl, ap, arith, codes, Contains}
use Rattle.std.specs.Fmt.{digits}
use Rattle.std.specs.Prelude.{unsigned_abs}
use Rattle.metering_model.specs.NumberText.{decimals_of}
use Rattle.metering_model.proofs.Samples.{cpu}
use Rattle.sheet_text.specs.Names.{key_name}
use Rattle.sheet_changes.specs.FieldChanges.{AreSorted, PriceDay, commitment_lines, price_day, price_day_cmp, price_days, price_lines, region_line}
use Rattle.sheet_changes.proofs.TwoSheets.{february_1, old_sheet, cpu_later, with_later_price, with_split_price, with_another_rate, with_another_name, with_asia_alone}

abbrev cpu_in_february : PriceDay
cpu_in_february = record { sku = codes "cpu"; day = february_1 }

pub a_price_is_listed : price_lines old_sheet with_later_price cpu_in_february (codes "2025-02-01") ≡ codes "price" ++ 9 ∷ (codes "cpu" ++ 9 ∷ (codes "2025-02-01" ++ 9 ∷ (codes "contracted" ++ 9 ∷ (codes "0.08" ++ 9 ∷ (codes "0.09" ++ 10 ∷ [])))))
unfolding price_lines key_name decimals_of digits
a_price_is_listed = refl

-- a price that is split at a day, and is the same on both sides
pub a_split_is_not_listed : price_lines old_sheet with_split_price cpu_in_february (codes "2025-02-01") ≡ []
unfolding price_lines key_name decimals_of digits
a_split_is_not_listed = refl

pub a_rate_is_listed : commitment_lines old_sheet with_another_rate (codes "cm-1") ≡ codes "commitment" ++ 9 ∷ (codes "cm-1" ++ 9 ∷ (codes "rate" ++ 9 ∷ (codes "0.05" ++ 9 ∷ (codes "0.06" ++ 10 ∷ []))))
unfolding commitment_lines key_name decimals_of digits
a_rate_is_listed = refl

pub a_name_is_listed : region_line old_sheet with_another_name (codes "eu-1") ≡ codes "region" ++ 9 ∷ (codes "eu-1" ++ 9 ∷ (codes "Europe 1" ++ 9 ∷ (codes "Europe One" ++ 10 ∷ [])))
a_name_is_listed = refl

-- a side that has no such region is empty
pub an_added_region_is_listed : region_line old_sheet with_asia_alone (codes "as-1") ≡ codes "region" ++ 9 ∷ (codes "as-1" ++ 9 ∷ 9 ∷ (codes "Asia 1" ++ 10 ∷ []))
an_added_region_is_listed = refl

-- ---- false worlds

-- a day on which a price of the new sheet alone begins
pub not_the_old_days : ¬ AreSorted price_day_cmp (price_days old_sheet with_later_price) (map price_day old_sheet.prices)
not_the_old_days are = nowhere (are.every 4 (price_day cpu) (omega arith))
  where
    other : ◌≡◌ {A = ℕ} 20_089 20_120 → ⊥
    other e = omega (arith, e)

    nowhere : Contains (map price_day old_sheet.prices) (price_day cpu_later) → ⊥
    nowhere (zero, less, is) = other (ap (λ d. unsigned_abs d.day) is)
    nowhere (suc zero, less, is) = other (ap (λ d. unsigned_abs d.day) is)
    nowhere (suc (suc zero), less, is) = other (ap (λ d. unsigned_abs d.day) is)
    nowhere (suc (suc (suc k)), less, is) = absurd (omega arith)

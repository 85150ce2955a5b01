-- What is wrong with each of the worked bad batches, and at which line.
use Rattle.std.specs.Prelude.{◌≡◌, ℕ, List, [], ◌∷◌, ◌++◌, Option, Some, None, option_map, Ok, Err, pos, codes, refl}
use Rattle.std.specs.List.{filter_map}
use Rattle.jiff_core.specs.Calendar.{days_from_civil, day_count, days_of_years, days_of_months}
use Rattle.metering_model.specs.NumberText.{worth_of}
use Rattle.metering_model.specs.Batch.{B2, Record, Amends}
use Rattle.metering_model.specs.BatchReading.{batch_in, BatchCode, Head, Count, Fields, Time, Number, Text, Tags}
use Rattle.metering_model.specs.Holding.{reading_of}
use Rattle.metering_model.specs.Transcript.{line}
use Rattle.metering_model.proofs.Samples.{reading_1}

abbrev IsBad : BatchCode → ℕ → List ℕ → Type 0
IsBad code at text = batch_in text ≡ Err (record { code = code; line = at })

is_empty : IsBad Head 1 []
is_empty = refl

without_line_feed : IsBad Count 2 (line (codes "B1|1|1|1") ++ reading_1)
without_line_feed = refl

too_few : IsBad Count 3 (line (codes "B1|1|1|2") ++ line reading_1)
unfolding days_from_civil day_count days_of_years days_of_months worth_of
too_few = refl

too_many : IsBad Count 2 (line (codes "B1|1|1|0") ++ line reading_1)
too_many = refl

tags_out_of_order : IsBad Tags 2 (line (codes "B1|1|1|1") ++ line (codes "U|2025-01-10T00:00:00Z|2025-01-10T02:00:00Z|acc-7|vm-1|cpu|5400||b=1;a=2"))
unfolding days_from_civil day_count days_of_years days_of_months worth_of
tags_out_of_order = refl

trailing_zero : IsBad Number 2 (line (codes "B1|1|1|1") ++ line (codes "U|2025-01-10T00:00:00Z|2025-01-10T02:00:00Z|acc-7|vm-1|cpu|1.50||env=prod"))
unfolding days_from_civil day_count days_of_years days_of_months worth_of
trailing_zero = refl

february_30 : IsBad Time 2 (line (codes "B1|1|1|1") ++ line (codes "U|2025-02-30T00:00:00Z|2025-01-10T02:00:00Z|acc-7|vm-1|cpu|5400||env=prod"))
unfolding days_from_civil day_count days_of_years days_of_months worth_of
february_30 = refl

one_field_more : IsBad Fields 2 (line (codes "B1|1|1|1") ++ line (reading_1 ++ codes "|"))
one_field_more = refl

-- ---- format B2: a reading has a tenth field, its region

nine_fields_in_b2 : IsBad Fields 2 (line (codes "B2|1|1|1") ++ line reading_1)
nine_fields_in_b2 = refl

ten_fields_in_b1 : IsBad Fields 2 (line (codes "B1|1|1|1") ++ line (reading_1 ++ codes "|eu-1"))
ten_fields_in_b1 = refl

eleven_fields_in_b2 : IsBad Fields 2 (line (codes "B2|1|1|1") ++ line (reading_1 ++ codes "|eu|1"))
eleven_fields_in_b2 = refl

-- the count of fields comes before what stands in them
nine_fields_of_which_one_is_bad : IsBad Fields 2 (line (codes "B2|1|1|1") ++ line (codes "U|2025-02-30T00:00:00Z|2025-01-10T02:00:00Z|acc-7|vm-1|cpu|1.50||b=1;a=2"))
nine_fields_of_which_one_is_bad = refl

region_with_a_tab : IsBad Text 2 (line (codes "B2|1|1|1") ++ line (reading_1 ++ codes "|eu" ++ 9 ∷ codes "1"))
unfolding days_from_civil day_count days_of_years days_of_months worth_of
region_with_a_tab = refl

-- the region stands behind the tags, so their fault comes first
tags_before_region : IsBad Tags 2 (line (codes "B2|1|1|1") ++ line (codes "U|2025-01-10T00:00:00Z|2025-01-10T02:00:00Z|acc-7|vm-1|cpu|5400||b=1;a=2|" ++ 9 ∷ []))
unfolding days_from_civil day_count days_of_years days_of_months worth_of
tags_before_region = refl

amendment_with_a_region : IsBad Fields 2 (line (codes "B2|1|1|1") ++ line (codes "X|1|0|1|eu-1"))
amendment_with_a_region = refl

an_unknown_version : IsBad Head 1 (line (codes "B3|1|1|0"))
an_unknown_version = refl

-- a batch of B2 without a record
none_of_b2 : batch_in (line (codes "B2|1|1|0")) ≡ Ok (record { version = B2; agent = 1; seq = 1; records = [] })
none_of_b2 = refl

-- an amendment has four fields in either
amendment_of_b2 : batch_in (line (codes "B2|1|2|1") ++ line (codes "X|1|0|7200")) ≡ Ok (record { version = B2; agent = 1; seq = 2; records = Amends 1 0 (pos 7_200_000_000) ∷ [] })
unfolding worth_of
amendment_of_b2 = refl

abbrev regions_of : List Record → List (Option (List ℕ))
regions_of rs = filter_map (λ x. option_map (λ r. r.region) (reading_of x)) rs

-- the regions of the readings of a batch
abbrev regions_read : List ℕ → List (Option (List ℕ))
regions_read text = elim (batch_in text) [ Ok b ↦ regions_of b.records | Err fault ↦ [] ]

none_in_b1 : regions_read (line (codes "B1|1|1|1") ++ line reading_1) ≡ None ∷ []
unfolding days_from_civil day_count days_of_years days_of_months worth_of
none_in_b1 = refl

-- a region may be empty
each_in_b2 : regions_read (line (codes "B2|1|1|3") ++ line (reading_1 ++ codes "|eu-1") ++ line (codes "X|1|0|7200") ++ line (reading_1 ++ codes "|"))
    ≡ Some (codes "eu-1") ∷ Some [] ∷ []
unfolding days_from_civil day_count days_of_years days_of_months worth_of
each_in_b2 = refl

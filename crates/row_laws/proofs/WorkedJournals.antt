-- Journals of two batches that two cuts charge: usage that is corrected, usage under a commitment, usage whose half is
-- rounded to even, and a credit.
use Rattle.std.specs.Prelude.{◌≡◌, ℕ, List, [], ◌∷◌, None, Ok, ℤ, pos, neg_ℤ, codes}
use Rattle.std.specs.Fmt.{digits}
use Rattle.jiff_core.specs.Calendar.{days_from_civil, day_count, days_of_years, days_of_months}
use Rattle.std.proofs.Common.{refl, arith}
use Rattle.std.proofs.lemmas.List.Elements.{All-nil, All-cons}
use Rattle.metering_model.specs.NumberText.{worth_of, decimals_of}
use Rattle.metering_model.specs.declared.Kind.TheVariants.{Usage, Credit}
use Rattle.metering_model.specs.declared.Version.TheVariants.{B1}
use Rattle.metering_model.specs.Batch.{Tag, Reading, Reads, Amends, Batch, IsWellFormed}
use Rattle.metering_model.specs.BatchReading.{batch_in}
use Rattle.metering_model.specs.Cut.{Cut, IsGrowing}
use Rattle.metering_model.specs.Holding.{Holding, IsHolding, Position}
use Rattle.metering_model.specs.Schedule.{TextLines, lines_text}
use Rattle.metering_model.proofs.BatchLaws.{IsWellFormed-read}
use Rattle.metering_model.proofs.Samples.{reading_1}

abbrev pub usage : List ℕ → ℤ → List ℕ → List Tag → Reading
usage sku value commitment tags = record {
  kind = Usage;
  start = pos 1_736_467_200;
  end = pos 1_736_474_400;
  start_text = codes "2025-01-10T00:00:00Z";
  end_text = codes "2025-01-10T02:00:00Z";
  account = codes "acc-7";
  resource = codes "vm-1";
  key = sku;
  value = value;
  commitment = commitment;
  tags = tags;
  region = None;
}

abbrev pub corrected : Reading
corrected = usage (codes "cpu") (pos 5_400_000_000) [] (record { key = codes "env"; value = codes "prod" } ∷ [])

abbrev pub committed : Reading
committed = usage (codes "cpu") (pos 5_400_000_000) (codes "cm-1") []

abbrev pub halved : Reading
halved = usage (codes "ops") (pos 1) [] []

abbrev pub credit : Reading
credit = record {
  kind = Credit;
  start = pos 1_738_540_800;
  end = pos 1_738_627_200;
  start_text = codes "2025-02-03T00:00:00Z";
  end_text = codes "2025-02-04T00:00:00Z";
  account = codes "acc-7";
  resource = [];
  key = codes "Launch credit";
  value = neg_ℤ (pos 2_500_000);
  commitment = [];
  tags = [];
  region = None;
}

abbrev pub january : Batch
january = record { version = B1; agent = 1; seq = 1; records = Reads corrected ∷ Reads committed ∷ Reads halved ∷ [] }

abbrev pub february : Batch
february = record { version = B1; agent = 1; seq = 2; records = Amends 1 0 (pos 7_200_000_000) ∷ Amends 1 2 (pos 3) ∷ Reads credit ∷ [] }

abbrev pub journals : Holding
journals = january ∷ february ∷ []

abbrev pub two_cuts : List Cut
two_cuts = (1 ∷ []) ∷ (2 ∷ []) ∷ []

abbrev pub place : ℕ → ℕ → Position
place seq index = record { agent = 1; seq = seq; index = index }

-- ---- they meet the premises: each batch is what a text is, the batches are in order, and the cuts grow

abbrev january_lines : TextLines
january_lines = codes "B1|1|1|3" ∷ reading_1 ∷
    codes "U|2025-01-10T00:00:00Z|2025-01-10T02:00:00Z|acc-7|vm-1|cpu|5400|cm-1|" ∷
    codes "U|2025-01-10T00:00:00Z|2025-01-10T02:00:00Z|acc-7|vm-1|ops|0.000001||" ∷ []

abbrev february_lines : TextLines
february_lines = codes "B1|1|2|3" ∷ codes "X|1|0|7200" ∷ codes "X|1|2|0.000003" ∷
    codes "C|2025-02-03T00:00:00Z|2025-02-04T00:00:00Z|acc-7||Launch credit|-2.5||" ∷ []

january_is_read : batch_in (lines_text january_lines) ≡ Ok january
unfolding days_from_civil day_count days_of_years days_of_months worth_of decimals_of digits
january_is_read = refl

february_is_read : batch_in (lines_text february_lines) ≡ Ok february
unfolding days_from_civil day_count days_of_years days_of_months worth_of decimals_of digits
february_is_read = refl

pub january_is_well_formed : IsWellFormed january
january_is_well_formed = IsWellFormed-read (lines_text january_lines) january january_is_read

pub february_is_well_formed : IsWellFormed february
february_is_well_formed = IsWellFormed-read (lines_text february_lines) february february_is_read

pub january_alone_is_a_holding : IsHolding (january ∷ [])
january_alone_is_a_holding = record { in_order = refl; batches = All-cons IsWellFormed january [] january_is_well_formed (All-nil IsWellFormed) }

pub journals_are_a_holding : IsHolding journals
journals_are_a_holding = record {
  in_order = refl;
  batches = All-cons IsWellFormed january (february ∷ []) january_is_well_formed (All-cons IsWellFormed february [] february_is_well_formed (All-nil IsWellFormed));
}

pub two_cuts_grow : IsGrowing 1 two_cuts
two_cuts_grow = ((omega arith, tt), ((omega arith, tt), tt))

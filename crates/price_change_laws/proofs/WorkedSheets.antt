-- A sheet of January 2025, a longer one from February on, and what else the worked examples share.
use Rattle.std.proofs.Common.{◌≡◌, ℕ, true, List, [], ◌∷◌, ◌++◌, map, refl, Some, Ok, Err, ℤ, pos, codes, arith, ◌≤ℤ◌}
use Rattle.std.specs.Option.{is_some}
use Rattle.std.proofs.lemmas.Int.{ints}
use Rattle.std.proofs.lemmas.List.Elements.{All-nil, All-cons}
use Rattle.jiff_core.specs.Calendar.{days_from_civil, day_count, days_of_years, days_of_months}
use Rattle.metering_model.specs.declared.Version.TheVariants.{B1}
use Rattle.metering_model.specs.Batch.{Batch}
use Rattle.metering_model.specs.BatchReading.{batch_in}
use Rattle.metering_model.specs.Dates.{period_end}
use Rattle.metering_model.specs.Sheet.{PriceRow, Commitment, Region, Sheet}
use Rattle.metering_model.specs.PriceInForce.{price_in_force, commitment_with, region_named}
use Rattle.metering_model.specs.World.{Packet}
use Rattle.metering_model.proofs.Samples.{january_2025, cpu, sheet_0, issuer_1}
use Rattle.sheet_laws.specs.Longer.{GoesOnFrom, IsLonger, day_start}
use Rattle.sheet_laws.proofs.LongerSheets.{goes_on, prices_all}
use Rattle.process_laws.specs.LocalSteps.{Group, TakePacket}
use Rattle.process_laws.specs.Histories.{Act, NodeDoes}
use Rattle.price_change_laws.specs.SheetedHistories.{SheetedAct, IsTakenOver, AreTakenOver}

abbrev pub february_1 : ℤ
february_1 = pos 20_120

abbrev pub old_sheet : Sheet
old_sheet = sheet_0

-- From February on CPU time costs more, and there is a SKU more.
abbrev pub cpu_2 : PriceRow
cpu_2 = record cpu { price_id = codes "cpu-2"; from = february_1; list = 120_000; contracted = 90_000 }

abbrev pub gpu : PriceRow
gpu = record cpu { sku = codes "gpu"; price_id = codes "gpu-od"; from = february_1 }

abbrev pub new_sheet : Sheet
new_sheet = record { base = january_2025; prices = cpu ∷ cpu_2 ∷ gpu ∷ []; commitments = []; regions = [] }

pub it_is_longer : IsLonger february_1 old_sheet new_sheet
it_is_longer = record {
  base = refl;
  before = refl;
  still = All-cons (λ (p : PriceRow). is_some (price_in_force new_sheet p.sku p.from) ≡ true) cpu [] refl
      (All-nil (λ (p : PriceRow). is_some (price_in_force new_sheet p.sku p.from) ≡ true));
  commitments = All-nil (λ (c : Commitment). commitment_with new_sheet c.id ≡ Some c);
  regions = All-nil (λ (x : Region). region_named new_sheet x.id ≡ Some x.name);
}

pub it_goes_on : GoesOnFrom february_1 old_sheet new_sheet
it_goes_on = goes_on february_1 old_sheet new_sheet it_is_longer

pub it_takes_over : IsTakenOver new_sheet old_sheet
it_takes_over = record { base = refl; prices = prices_all february_1 old_sheet new_sheet it_is_longer }

pub january_is_over : period_end january_2025 0 ≤ℤ day_start february_1
unfolding days_from_civil day_count days_of_years days_of_months
january_is_over = grind (arith, ints)

-- ---- a group, batches and acts

abbrev pub name : List ℕ
name = codes "one"

-- of one voter and one agent; the sheet is the last one
abbrev pub group : (observers : ℕ) → Sheet → Group
group observers sheet = record { name = name; voters = 1; observers = observers; agents = 1; sheet = sheet; issuer = issuer_1 }

abbrev pub takes : ℕ → Packet → Act
takes i p = NodeDoes i (TakePacket name p)

abbrev pub under : Sheet → List Act → List SheetedAct
under sheet acts = map (λ a. record { sheet = sheet; act = a }) acts

abbrev pub read : List ℕ → Batch
read text = elim (batch_in text) [ Ok b ↦ b | Err fault ↦ record { version = B1; agent = 0; seq = 0; records = [] } ]

pub all_over : (last sheet : Sheet) → IsTakenOver last sheet → (acts : List Act) (rest : List SheetedAct) → AreTakenOver last rest → AreTakenOver last (under sheet acts ++ rest)
all_over last sheet over [] rest all = all
all_over last sheet over (a ∷ acts) rest all =
    All-cons (λ (x : SheetedAct). IsTakenOver last x.sheet) (record { sheet = sheet; act = a }) (under sheet acts ++ rest) over
    (all_over last sheet over acts rest all)

pub none_over : (last : Sheet) → AreTakenOver last []
none_over last = All-nil (λ (x : SheetedAct). IsTakenOver last x.sheet)

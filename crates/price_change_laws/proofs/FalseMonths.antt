-- The law on closed months is false without each of the premises on an export.
use Rattle.std.proofs.Common.{ap, subst, option_map, is_some, ◌≤ℤ◌}
use Rattle.std.specs.Prelude.{◌≡◌, ℕ, true, false, List, [], ◌∷◌, ◌++◌, Some, None, ℤ, codes, refl}
use Rattle.std.specs.List.{Contains}
use Rattle.std.specs.Fmt.{digits}
use Rattle.std.proofs.Math.Dec.{lit<, lit≤}
use Rattle.std.proofs.lemmas.Bool.{both_ways}
use Rattle.std.proofs.lemmas.List.Elements.{All-nil, All-cons}
use Rattle.jiff_core.specs.Calendar.{days_from_civil, day_count, days_of_years, days_of_months}
use Rattle.metering_model.specs.NumberText.{worth_of, decimals_of}
use Rattle.metering_model.specs.Batch.{Batch}
use Rattle.metering_model.specs.BatchReading.{is_same}
use Rattle.metering_model.specs.Cut.{Cut}
use Rattle.metering_model.specs.Holding.{Holding}
use Rattle.metering_model.specs.Dates.{period_end}
use Rattle.metering_model.specs.Sheet.{PriceRow, Commitment, Region, Sheet}
use Rattle.metering_model.specs.PriceInForce.{price_in_force, commitment_with, region_named}
use Rattle.metering_model.specs.Transcript.{file_of}
use Rattle.metering_model.specs.World.{CarriesBatch, Prepare, Promise, Accept, Accepted, Kept, Good, Snapshot, new_kept}
use Rattle.metering_model.proofs.Samples.{issuer_1, cpu, europe}
use Rattle.group_laws.proofs.Told.{same_itself}
use Rattle.sheet_laws.specs.Longer.{GoesOnFrom, IsLonger, NamesAllAlike, without_from, day_start}
use Rattle.sheet_laws.proofs.LongerSheets.{goes_on}
use Rattle.sheet_laws.proofs.Premises.{named_alike}
use Rattle.process_laws.specs.LocalSteps.{Group, BeginBallot, ExportPeriod, JournalBatch, HasExported, saying}
use Rattle.process_laws.specs.Histories.{Act, NodeDoes, NodeGoesOn, AgentDoes, begun}
use Rattle.process_laws.proofs.EachAct.{◌⨾◌}
use Rattle.price_change_laws.specs.SheetedHistories.{SheetedAct, sheeted_answers, IsSheetedHistory, IsTakenOver, AreTakenOver}
use Rattle.price_change_laws.proofs.LongerSheets.{takes_over, takes_over_itself}
use Rattle.price_change_laws.proofs.WorkedSheets.{february_1, old_sheet, new_sheet, it_goes_on, it_takes_over, january_is_over, group, takes, under, read, all_over, none_over}

abbrev one : Sheet → Group
one sheet = group 0 sheet

-- the law, with another premise on each of two exports
abbrev SameFiles : ((day : ℤ) (last : Sheet) → Snapshot → Type 0) → Type 0
SameFiles Premise = (g : Group) (acts : List SheetedAct) → IsSheetedHistory g (begun g) acts → AreTakenOver g.sheet acts → (s t : Snapshot)
    → Contains (sheeted_answers g (begun g) acts) (saying (HasExported s)) → Contains (sheeted_answers g (begun g) acts) (saying (HasExported t))
    → s.period ≡ t.period → (day : ℤ) → Premise day g.sheet s → Premise day g.sheet t → file_of s ≡ file_of t

they_differ : (s t : Snapshot) → is_same (file_of s) (file_of t) ≡ false → file_of s ≡ file_of t → ⊥
they_differ s t differ same =
    both_ways (is_same (file_of s) (file_of t)) differ (subst (λ (file : List ℕ). is_same (file_of s) file ≡ true) same (same_itself (file_of s)))

names_itself : (sheet : Sheet) (h : Holding) → NamesAllAlike sheet sheet h
names_itself sheet h at r e id is = refl

goes_on_itself : (day : ℤ) (sheet : Sheet) → GoesOnFrom day sheet sheet
goes_on_itself day sheet = record { base = refl; prices = λ sku before p early e. ap (option_map without_from) e; commitments = λ id c e. e }

-- ---- a month that does not end by the day

-- CPU time of February, which both sheets price, each in its way
abbrev text : List ℕ
text = codes "B1|1|1|1\nU|2025-02-03T00:00:00Z|2025-02-03T01:00:00Z|acc-7|vm-1|cpu|3600||\n"

abbrev batch : Batch
batch = read text

abbrev none : Cut
none = 0 ∷ []

abbrev cut : Cut
cut = 1 ∷ []

-- Under the old sheet the node closes January, without a batch, and February. It exports February, and once more under the new sheet.
abbrev before : List Act
before =
    AgentDoes 1 (JournalBatch (Good text)) ∷ takes 0 (CarriesBatch batch) ∷ NodeDoes 0 BeginBallot ∷ takes 0 (Prepare 0 1) ∷ takes 0 (Promise 0 0 1 None)
    ∷ takes 0 (Accept 0 1 none) ∷ takes 0 (Accepted 0 0 1 none) ∷ NodeDoes 0 BeginBallot ∷ takes 0 (Prepare 1 2) ∷ takes 0 (Promise 0 1 2 None)
    ∷ takes 0 (Accept 1 2 cut) ∷ takes 0 (Accepted 0 1 2 cut) ∷ NodeDoes 0 (ExportPeriod 1) ∷ []

abbrev stored : Kept
stored = record new_kept { round = 2; learned = none ∷ cut ∷ []; holding = batch ∷ [] }

abbrev behind : List Act
behind = NodeGoesOn 0 stored ∷ NodeDoes 0 (ExportPeriod 1) ∷ []

abbrev acts : List SheetedAct
acts = under old_sheet before ++ under new_sheet behind

abbrev february : Sheet → Snapshot
february sheet = record { period = 1; from = none; to = cut; batches = batch ∷ []; sheet = sheet; issuer = issuer_1 }

is_history : IsSheetedHistory (one new_sheet) (begun (one new_sheet)) acts
unfolding days_from_civil day_count days_of_years days_of_months worth_of decimals_of digits
is_history =
    (lit≤ tt, lit≤ tt) ⨾
    (lit< tt, λ same. (0, lit< tt, refl)) ⨾
    (lit< tt, tt) ⨾
    (lit< tt, λ same. (1, lit< tt, refl)) ⨾
    (lit< tt, λ same. (2, lit< tt, refl)) ⨾
    (lit< tt, λ same. (3, lit< tt, refl)) ⨾
    (lit< tt, λ same. (4, lit< tt, refl)) ⨾
    (lit< tt, tt) ⨾
    (lit< tt, λ same. (5, lit< tt, refl)) ⨾
    (lit< tt, λ same. (6, lit< tt, refl)) ⨾
    (lit< tt, λ same. (7, lit< tt, refl)) ⨾
    (lit< tt, λ same. (8, lit< tt, refl)) ⨾
    (lit< tt, tt) ⨾
    (_, refl, refl) ⨾
    (lit< tt, tt) ⨾ tt

are_taken_over : AreTakenOver new_sheet acts
are_taken_over =
    all_over new_sheet old_sheet it_takes_over before (under new_sheet behind)
    (all_over new_sheet new_sheet (takes_over_itself new_sheet) behind [] (none_over new_sheet))

by_the_old : Contains (sheeted_answers (one new_sheet) (begun (one new_sheet)) acts) (saying (HasExported (february old_sheet)))
unfolding days_from_civil day_count days_of_years days_of_months worth_of decimals_of digits
by_the_old = (12, lit< tt, refl)

by_the_new : Contains (sheeted_answers (one new_sheet) (begun (one new_sheet)) acts) (saying (HasExported (february new_sheet)))
unfolding days_from_civil day_count days_of_years days_of_months worth_of decimals_of digits
by_the_new = (14, lit< tt, refl)

names : NamesAllAlike old_sheet new_sheet (batch ∷ [])
unfolding days_from_civil day_count days_of_years days_of_months worth_of decimals_of digits
names = named_alike old_sheet new_sheet (batch ∷ []) refl

-- 0.08 and 0.09
files_differ : is_same (file_of (february old_sheet)) (file_of (february new_sheet)) ≡ false
unfolding days_from_civil day_count days_of_years days_of_months worth_of decimals_of digits
files_differ = refl

files_of_an_open_month : SameFiles (λ day last s. GoesOnFrom day s.sheet last × NamesAllAlike s.sheet last s.batches) → ⊥
files_of_an_open_month law =
    they_differ (february old_sheet) (february new_sheet) files_differ
    (law (one new_sheet) acts is_history are_taken_over (february old_sheet) (february new_sheet) by_the_old by_the_new refl february_1
    (it_goes_on, names) (goes_on_itself february_1 new_sheet, names_itself new_sheet (batch ∷ [])))

-- ---- January, which ends by the day

abbrev text_of_january : List ℕ
text_of_january = codes "B2|1|1|1\nU|2025-01-10T00:00:00Z|2025-01-10T02:00:00Z|acc-7|vm-1|cpu|5400|||eu-1\n"

abbrev batch_of_january : Batch
batch_of_january = read text_of_january

abbrev closing : List Act
closing =
    AgentDoes 1 (JournalBatch (Good text_of_january)) ∷ takes 0 (CarriesBatch batch_of_january) ∷ NodeDoes 0 BeginBallot ∷ takes 0 (Prepare 0 1)
    ∷ takes 0 (Promise 0 0 1 None) ∷ takes 0 (Accept 0 1 cut) ∷ takes 0 (Accepted 0 0 1 cut) ∷ NodeDoes 0 (ExportPeriod 0) ∷ []

abbrev stored_then : Kept
stored_then = record new_kept { round = 1; learned = cut ∷ []; holding = batch_of_january ∷ [] }

abbrev again : List Act
again = NodeGoesOn 0 stored_then ∷ NodeDoes 0 (ExportPeriod 0) ∷ []

abbrev january : Sheet → Snapshot
january sheet = record { period = 0; from = none; to = cut; batches = batch_of_january ∷ []; sheet = sheet; issuer = issuer_1 }

abbrev twice : Sheet → List SheetedAct
twice last = under old_sheet closing ++ under last again

-- whatever the last sheet is
twice_is_history : (last : Sheet) → IsSheetedHistory (one last) (begun (one last)) (twice last)
unfolding days_from_civil day_count days_of_years days_of_months worth_of decimals_of digits
twice_is_history last =
    (lit≤ tt, lit≤ tt) ⨾
    (lit< tt, λ same. (0, lit< tt, refl)) ⨾
    (lit< tt, tt) ⨾
    (lit< tt, λ same. (1, lit< tt, refl)) ⨾
    (lit< tt, λ same. (2, lit< tt, refl)) ⨾
    (lit< tt, λ same. (3, lit< tt, refl)) ⨾
    (lit< tt, λ same. (4, lit< tt, refl)) ⨾
    (lit< tt, tt) ⨾
    (_, refl, refl) ⨾
    (lit< tt, tt) ⨾ tt

-- January is exported under that sheet
abbrev HasJanuary : Sheet → Sheet → Type 0
HasJanuary last sheet = Contains (sheeted_answers (one last) (begun (one last)) (twice last)) (saying (HasExported (january sheet)))

twice_taken_over : (last : Sheet) → IsTakenOver last old_sheet → AreTakenOver last (twice last)
twice_taken_over last over =
    all_over last old_sheet over closing (under last again) (all_over last last (takes_over_itself last) again [] (none_over last))

-- Another price of January. From before January on the sheet is longer, and so takes over.
abbrev with_another_price : Sheet
with_another_price = record old_sheet { prices = record cpu { list = 120_000; contracted = 90_000 } ∷ [] }

another_price_is_longer : IsLonger cpu.from old_sheet with_another_price
another_price_is_longer = record {
  base = refl;
  before = refl;
  still = All-cons (λ (p : PriceRow). is_some (price_in_force with_another_price p.sku p.from) ≡ true) cpu [] refl
      (All-nil (λ (p : PriceRow). is_some (price_in_force with_another_price p.sku p.from) ≡ true));
  commitments = All-nil (λ (c : Commitment). commitment_with with_another_price c.id ≡ Some c);
  regions = All-nil (λ (x : Region). region_named with_another_price x.id ≡ Some x.name);
}

old_has_price : HasJanuary with_another_price old_sheet
unfolding days_from_civil day_count days_of_years days_of_months worth_of decimals_of digits
old_has_price = (7, lit< tt, refl)

new_has_price : HasJanuary with_another_price with_another_price
unfolding days_from_civil day_count days_of_years days_of_months worth_of decimals_of digits
new_has_price = (9, lit< tt, refl)

prices_differ : is_same (file_of (january old_sheet)) (file_of (january with_another_price)) ≡ false
unfolding days_from_civil day_count days_of_years days_of_months worth_of decimals_of digits
prices_differ = refl

no_names : NamesAllAlike old_sheet with_another_price (batch_of_january ∷ [])
unfolding days_from_civil day_count days_of_years days_of_months worth_of decimals_of digits
no_names = named_alike old_sheet with_another_price (batch_of_january ∷ []) refl

files_of_another_price : SameFiles (λ day last s. (period_end last.base s.period ≤ℤ day_start day) × NamesAllAlike s.sheet last s.batches) → ⊥
files_of_another_price law =
    they_differ (january old_sheet) (january with_another_price) prices_differ
    (law (one with_another_price) (twice with_another_price) (twice_is_history with_another_price)
    (twice_taken_over with_another_price (takes_over cpu.from old_sheet with_another_price another_price_is_longer))
    (january old_sheet) (january with_another_price) old_has_price new_has_price refl february_1
    (january_is_over, no_names) (january_is_over, names_itself with_another_price (batch_of_january ∷ [])))

-- A name for a region that was charged without one.
abbrev with_a_name : Sheet
with_a_name = record old_sheet { regions = europe ∷ [] }

a_name_is_longer : IsLonger february_1 old_sheet with_a_name
a_name_is_longer = record {
  base = refl;
  before = refl;
  still = All-cons (λ (p : PriceRow). is_some (price_in_force with_a_name p.sku p.from) ≡ true) cpu [] refl
      (All-nil (λ (p : PriceRow). is_some (price_in_force with_a_name p.sku p.from) ≡ true));
  commitments = All-nil (λ (c : Commitment). commitment_with with_a_name c.id ≡ Some c);
  regions = All-nil (λ (x : Region). region_named with_a_name x.id ≡ Some x.name);
}

old_has_name : HasJanuary with_a_name old_sheet
unfolding days_from_civil day_count days_of_years days_of_months worth_of decimals_of digits
old_has_name = (7, lit< tt, refl)

new_has_name : HasJanuary with_a_name with_a_name
unfolding days_from_civil day_count days_of_years days_of_months worth_of decimals_of digits
new_has_name = (9, lit< tt, refl)

names_differ : is_same (file_of (january old_sheet)) (file_of (january with_a_name)) ≡ false
unfolding days_from_civil day_count days_of_years days_of_months worth_of decimals_of digits
names_differ = refl

files_of_another_name : SameFiles (λ day last s. GoesOnFrom day s.sheet last × (period_end last.base s.period ≤ℤ day_start day)) → ⊥
files_of_another_name law =
    they_differ (january old_sheet) (january with_a_name) names_differ
    (law (one with_a_name) (twice with_a_name) (twice_is_history with_a_name)
    (twice_taken_over with_a_name (takes_over february_1 old_sheet with_a_name a_name_is_longer))
    (january old_sheet) (january with_a_name) old_has_name new_has_name refl february_1
    (goes_on february_1 old_sheet with_a_name a_name_is_longer, january_is_over) (goes_on_itself february_1 with_a_name, january_is_over))

-- Prices change while a group of one agent, one voter and one observer runs. January is exported by the voter, which has the old sheet still, and by
-- the observer, which was begun again under the new one: the same bytes.
use Rattle.std.specs.Prelude.{◌≡◌, ℕ, List, [], ◌∷◌, ◌++◌, Some, None, codes, refl}
use Rattle.std.specs.List.{Contains}
use Rattle.std.specs.Fmt.{digits}
use Rattle.std.proofs.Math.Dec.{lit<, lit≤}
use Rattle.jiff_core.specs.Calendar.{days_from_civil, day_count, days_of_years, days_of_months}
use Rattle.metering_model.specs.NumberText.{worth_of, decimals_of}
use Rattle.metering_model.specs.declared.Refusal.TheVariants.{Unpriced}
use Rattle.metering_model.specs.Batch.{Batch}
use Rattle.metering_model.specs.Cut.{Cut}
use Rattle.metering_model.specs.File.{header_line}
use Rattle.metering_model.specs.Schedule.{lines_text}
use Rattle.metering_model.specs.Sheet.{Sheet}
use Rattle.metering_model.specs.Transcript.{file_of}
use Rattle.metering_model.specs.World.{Packet, CarriesBatch, Prepare, Promise, Accept, Accepted, Kept, Good, Snapshot, new_kept}
use Rattle.metering_model.proofs.Samples.{issuer_1, row_1}
use Rattle.sheet_laws.specs.Longer.{NamesAllAlike}
use Rattle.sheet_laws.proofs.Premises.{named_alike}
use Rattle.process_laws.specs.LocalSteps.{Group, BeginBallot, ExportPeriod, JournalBatch, OfModel, Unfit, HasTaken, HasBegun, HasJournaled, HasExported, NodeWentOn, AgentWentOn, Answer, Words, saying, refusing}
use Rattle.process_laws.specs.Histories.{Act, NodeDoes, NodeGoesOn, AgentDoes, AgentGoesOn, begun, IsDoneByWorld}
use Rattle.process_laws.proofs.DoneByWorld.{is_done_by_world}
use Rattle.process_laws.proofs.EachAct.{◌⨾◌}
use Rattle.price_change_laws.specs.SheetedHistories.{SheetedAct, sheeted_answers, sheeted_after, IsSheetedHistory, IsTakenOver, AreTakenOver, acts_kept, EndsBeforeChange}
use Rattle.price_change_laws.proofs.ClosedMonths.{same_file}
use Rattle.price_change_laws.proofs.KeptActs.{all_kept}
use Rattle.price_change_laws.proofs.LongerSheets.{takes_over_itself, ends_by, ends_by_itself}
use Rattle.price_change_laws.proofs.WorkedSheets.{february_1, old_sheet, new_sheet, it_is_longer, it_takes_over, january_is_over, group, takes, under, read, all_over, none_over}

-- node 0 votes, and node 1 observes
abbrev two : Group
two = group 1 new_sheet

-- ---- batches

abbrev text_1 : List ℕ
text_1 = codes "B1|1|1|1\nU|2025-01-10T00:00:00Z|2025-01-10T02:00:00Z|acc-7|vm-1|cpu|5400||env=prod\n"

-- of a SKU that the old sheet lacks
abbrev text_2 : List ℕ
text_2 = codes "B1|1|2|1\nU|2025-02-03T00:00:00Z|2025-02-03T01:00:00Z|acc-7|vm-1|gpu|3600||\n"

abbrev batch_1 : Batch
batch_1 = read text_1

abbrev batch_2 : Batch
batch_2 = read text_2

abbrev cut_0 : Cut
cut_0 = 1 ∷ []

abbrev cut_1 : Cut
cut_1 = 2 ∷ []

-- ---- what is done

abbrev and_sends : Words → Packet → Answer
and_sends words p = record { words = words; sends = Some p }

abbrev january : Sheet → Snapshot
january sheet = record { period = 0; from = 0 ∷ []; to = cut_0; batches = batch_1 ∷ []; sheet = sheet; issuer = issuer_1 }

abbrev february : Sheet → Snapshot
february sheet = record { period = 1; from = cut_0; to = cut_1; batches = batch_1 ∷ batch_2 ∷ []; sheet = sheet; issuer = issuer_1 }

-- All have the old sheet. January is closed and exported, and a batch is refused, since the sheet lacks its price.
abbrev first_acts : List Act
first_acts =
    AgentDoes 1 (JournalBatch (Good text_1)) ∷ takes 0 (CarriesBatch batch_1) ∷ NodeDoes 0 BeginBallot ∷ takes 0 (Prepare 0 1)
    ∷ takes 0 (Promise 0 0 1 None) ∷ takes 0 (Accept 0 1 cut_0) ∷ takes 0 (Accepted 0 0 1 cut_0) ∷ NodeDoes 0 (ExportPeriod 0)
    ∷ takes 1 (CarriesBatch batch_1) ∷ takes 1 (Accepted 0 0 1 cut_0) ∷ AgentDoes 1 (JournalBatch (Good text_2)) ∷ []

abbrev at_first : List SheetedAct
at_first = under old_sheet first_acts

first_answers : sheeted_answers two (begun two) at_first ≡
    and_sends (HasJournaled 1) (CarriesBatch batch_1) ∷ saying (HasTaken None) ∷ and_sends (HasBegun 1) (Prepare 0 1)
    ∷ and_sends (HasTaken None) (Promise 0 0 1 None) ∷ and_sends (HasTaken None) (Accept 0 1 cut_0)
    ∷ and_sends (HasTaken None) (Accepted 0 0 1 cut_0) ∷ saying (HasTaken (Some 0)) ∷ saying (HasExported (january old_sheet))
    ∷ saying (HasTaken None) ∷ saying (HasTaken (Some 0)) ∷ refusing (OfModel Unpriced) ∷ []
unfolding days_from_civil day_count days_of_years days_of_months worth_of decimals_of digits
first_answers = refl

-- what node 1 stored by then, and what node 0 stores by the end
abbrev stored_1 : Kept
stored_1 = record new_kept { learned = cut_0 ∷ []; holding = batch_1 ∷ [] }

abbrev stored_0 : Kept
stored_0 = record new_kept { round = 2; learned = cut_0 ∷ cut_1 ∷ []; holding = batch_1 ∷ batch_2 ∷ [] }

-- The agent and the observer are begun again under the new sheet. The batch is taken now, and January is exported once more.
abbrev two_acts : List Act
two_acts =
    AgentGoesOn 1 (batch_1 ∷ []) ∷ AgentDoes 1 (JournalBatch (Good text_2)) ∷ NodeGoesOn 1 stored_1 ∷ NodeDoes 1 (ExportPeriod 0) ∷ []

abbrev then_two : List SheetedAct
then_two = under new_sheet two_acts

two_answers : sheeted_answers two (sheeted_after two (begun two) at_first) then_two ≡
    saying (AgentWentOn 2) ∷ and_sends (HasJournaled 2) (CarriesBatch batch_2) ∷ saying (NodeWentOn 1 0)
    ∷ saying (HasExported (january new_sheet)) ∷ []
unfolding days_from_civil day_count days_of_years days_of_months worth_of decimals_of digits
two_answers = refl

-- Node 0 closes February with the batch, for which no price is asked. It exports January as ever, but not February, of which its sheet lacks a price.
abbrev one_acts : List Act
one_acts =
    takes 0 (CarriesBatch batch_2) ∷ NodeDoes 0 BeginBallot ∷ takes 0 (Prepare 1 2) ∷ takes 0 (Promise 0 1 2 None) ∷ takes 0 (Accept 1 2 cut_1)
    ∷ takes 0 (Accepted 0 1 2 cut_1) ∷ NodeDoes 0 (ExportPeriod 0) ∷ NodeDoes 0 (ExportPeriod 1) ∷ []

abbrev then_one : List SheetedAct
then_one = under old_sheet one_acts

one_answers : sheeted_answers two (sheeted_after two (begun two) (at_first ++ then_two)) then_one ≡
    saying (HasTaken None) ∷ and_sends (HasBegun 2) (Prepare 1 2) ∷ and_sends (HasTaken None) (Promise 0 1 2 None)
    ∷ and_sends (HasTaken None) (Accept 1 2 cut_1) ∷ and_sends (HasTaken None) (Accepted 0 1 2 cut_1) ∷ saying (HasTaken (Some 1))
    ∷ saying (HasExported (january old_sheet)) ∷ refusing Unfit ∷ []
unfolding days_from_civil day_count days_of_years days_of_months worth_of decimals_of digits
one_answers = refl

-- It is begun again under the new sheet too, and exports February.
abbrev last_acts : List Act
last_acts =
    NodeGoesOn 0 stored_0 ∷ NodeDoes 0 (ExportPeriod 1) ∷ []

abbrev at_last : List SheetedAct
at_last = under new_sheet last_acts

last_answers : sheeted_answers two (sheeted_after two (begun two) (at_first ++ then_two ++ then_one)) at_last ≡
    saying (NodeWentOn 2 2) ∷ saying (HasExported (february new_sheet)) ∷ []
unfolding days_from_civil day_count days_of_years days_of_months worth_of decimals_of digits
last_answers = refl

-- ---- it is a history under both sheets

abbrev acts : List SheetedAct
acts = at_first ++ then_two ++ then_one ++ at_last

is_history : IsSheetedHistory two (begun two) acts
unfolding days_from_civil day_count days_of_years days_of_months worth_of decimals_of digits
is_history =
    (lit≤ tt, lit≤ tt) ⨾
    (lit< tt, λ same. (0, lit< tt, refl)) ⨾
    (lit< tt, tt) ⨾
    (lit< tt, λ same. (1, lit< tt, refl)) ⨾
    (lit< tt, λ same. (2, lit< tt, refl)) ⨾
    (lit< tt, λ same. (3, lit< tt, refl)) ⨾
    (lit< tt, λ same. (4, lit< tt, refl)) ⨾
    (lit< tt, tt) ⨾
    (lit< tt, λ same. (0, lit< tt, refl)) ⨾
    (lit< tt, λ same. (4, lit< tt, refl)) ⨾
    (lit≤ tt, lit≤ tt) ⨾
    (lit≤ tt, lit≤ tt, refl) ⨾
    (lit≤ tt, lit≤ tt) ⨾
    (_, refl, refl) ⨾
    (lit< tt, tt) ⨾
    (lit< tt, λ same. (5, lit< tt, refl)) ⨾
    (lit< tt, tt) ⨾
    (lit< tt, λ same. (6, lit< tt, refl)) ⨾
    (lit< tt, λ same. (7, lit< tt, refl)) ⨾
    (lit< tt, λ same. (8, lit< tt, refl)) ⨾
    (lit< tt, λ same. (9, lit< tt, refl)) ⨾
    (lit< tt, tt) ⨾
    (lit< tt, tt) ⨾
    (_, refl, refl) ⨾
    (lit< tt, tt) ⨾ tt

-- ---- what the laws say of it

itself : IsTakenOver new_sheet new_sheet
itself = takes_over_itself new_sheet

are_taken_over : AreTakenOver new_sheet acts
are_taken_over =
    all_over new_sheet old_sheet it_takes_over first_acts (then_two ++ then_one ++ at_last)
    (all_over new_sheet new_sheet itself two_acts (then_one ++ at_last)
    (all_over new_sheet old_sheet it_takes_over one_acts at_last
    (all_over new_sheet new_sheet itself last_acts [] (none_over new_sheet))))

-- the batch that was refused, and the export that was not fit, are left out
the_others : acts_kept acts (sheeted_answers two (begun two) acts) ≡
    AgentDoes 1 (JournalBatch (Good text_1)) ∷ takes 0 (CarriesBatch batch_1) ∷ NodeDoes 0 BeginBallot ∷ takes 0 (Prepare 0 1)
    ∷ takes 0 (Promise 0 0 1 None) ∷ takes 0 (Accept 0 1 cut_0) ∷ takes 0 (Accepted 0 0 1 cut_0) ∷ NodeDoes 0 (ExportPeriod 0)
    ∷ takes 1 (CarriesBatch batch_1) ∷ takes 1 (Accepted 0 0 1 cut_0) ∷ AgentGoesOn 1 (batch_1 ∷ []) ∷ AgentDoes 1 (JournalBatch (Good text_2))
    ∷ NodeGoesOn 1 stored_1 ∷ NodeDoes 1 (ExportPeriod 0) ∷ takes 0 (CarriesBatch batch_2) ∷ NodeDoes 0 BeginBallot ∷ takes 0 (Prepare 1 2)
    ∷ takes 0 (Promise 0 1 2 None) ∷ takes 0 (Accept 1 2 cut_1) ∷ takes 0 (Accepted 0 1 2 cut_1) ∷ NodeDoes 0 (ExportPeriod 0)
    ∷ NodeGoesOn 0 stored_0 ∷ NodeDoes 0 (ExportPeriod 1) ∷ []
unfolding days_from_civil day_count days_of_years days_of_months worth_of decimals_of digits
the_others = refl

-- so a world with the new sheet does the same
so_a_world_does_it : IsDoneByWorld two (acts_kept acts (sheeted_answers two (begun two) acts))
so_a_world_does_it = is_done_by_world two (acts_kept acts (sheeted_answers two (begun two) acts)) (all_kept two acts is_history are_taken_over).history

names : NamesAllAlike old_sheet new_sheet (batch_1 ∷ [])
unfolding days_from_civil day_count days_of_years days_of_months worth_of decimals_of digits
names = named_alike old_sheet new_sheet (batch_1 ∷ []) refl

by_the_change : EndsBeforeChange new_sheet (january old_sheet)
by_the_change = ends_by february_1 new_sheet (january old_sheet) it_is_longer january_is_over names

by_the_old : Contains (sheeted_answers two (begun two) acts) (saying (HasExported (january old_sheet)))
unfolding days_from_civil day_count days_of_years days_of_months worth_of decimals_of digits
by_the_old = (7, lit< tt, refl)

by_the_new : Contains (sheeted_answers two (begun two) acts) (saying (HasExported (january new_sheet)))
unfolding days_from_civil day_count days_of_years days_of_months worth_of decimals_of digits
by_the_new = (14, lit< tt, refl)

the_same_january : file_of (january old_sheet) ≡ file_of (january new_sheet)
the_same_january =
    same_file two acts is_history are_taken_over (january old_sheet) (january new_sheet) by_the_old by_the_new refl by_the_change (ends_by_itself (january new_sheet))

-- and so it is computed
these_bytes : (file_of (january old_sheet) ≡ lines_text (header_line ∷ row_1 ∷ [])) × (file_of (january new_sheet) ≡ lines_text (header_line ∷ row_1 ∷ []))
unfolding days_from_civil day_count days_of_years days_of_months worth_of decimals_of digits
these_bytes = (refl, refl)

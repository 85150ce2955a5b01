-- The law on answers is false where the last sheet does not take over the ones before it.
use Rattle.std.proofs.Common.{arith, ap, sym, ◌∙◌, All}
use Rattle.std.specs.Prelude.{◌≡◌, ℕ, ◌+◌, false, List, [], ◌∷◌, Bool, map, Option, Some, None, slice_get, codes, refl}
use Rattle.std.specs.Fmt.{digits}
use Rattle.std.proofs.Math.Dec.{lit<, lit≤}
use Rattle.std.proofs.lemmas.Bool.{true≢false}
use Rattle.std.proofs.lemmas.List.Elements.{All-nil, All-cons}
use Rattle.jiff_core.specs.Calendar.{days_from_civil, day_count, days_of_years, days_of_months}
use Rattle.metering_model.specs.NumberText.{worth_of, decimals_of}
use Rattle.metering_model.specs.declared.Refusal.TheVariants.{Unpriced}
use Rattle.metering_model.specs.Batch.{Batch}
use Rattle.metering_model.specs.Cut.{Cut, last_of}
use Rattle.metering_model.specs.Sheet.{Sheet}
use Rattle.metering_model.specs.World.{Packet, CarriesBatch, Prepare, Promise, Accept, Good}
use Rattle.metering_model.proofs.Samples.{january_2025}
use Rattle.sheet_laws.specs.Runs.{PricesAllOf}
use Rattle.process_laws.specs.LocalSteps.{Group, BeginBallot, JournalBatch, OfModel, HasJournaled, Answer, refusing}
use Rattle.process_laws.specs.Histories.{Act, NodeDoes, AgentDoes, begun, answers}
use Rattle.process_laws.proofs.EachAct.{◌⨾◌}
use Rattle.price_change_laws.specs.SheetedHistories.{SheetedAct, sheeted_answers, IsSheetedHistory, lacks_price, acts_kept, answers_kept, answer_under}
use Rattle.price_change_laws.proofs.WorkedSheets.{old_sheet, new_sheet, group, takes, under, read}

abbrev one : Sheet → Group
one sheet = group 0 sheet

abbrev AnswersOf : (Sheet → Sheet → Type 0) → Type 0
AnswersOf Premise = (g : Group) (acts : List SheetedAct) → IsSheetedHistory g (begun g) acts → All (λ x. Premise g.sheet x.sheet) acts
    → answers g (begun g) (acts_kept acts (sheeted_answers g (begun g) acts)) ≡ map (answer_under g.sheet) (answers_kept (sheeted_answers g (begun g) acts))

abbrev of_gpu : List ℕ
of_gpu = codes "B1|1|1|1\nU|2025-02-03T00:00:00Z|2025-02-03T01:00:00Z|acc-7|vm-1|gpu|3600||\n"

abbrev journals_gpu : List SheetedAct
journals_gpu = record { sheet = new_sheet; act = AgentDoes 1 (JournalBatch (Good of_gpu)) } ∷ []

abbrev refused_later : List Answer
refused_later = answers (one old_sheet) (begun (one old_sheet)) (acts_kept journals_gpu (sheeted_answers (one old_sheet) (begun (one old_sheet)) journals_gpu))

is_refused_later : refused_later ≡ refusing (OfModel Unpriced) ∷ []
unfolding days_from_civil day_count days_of_years days_of_months worth_of decimals_of digits
is_refused_later = refl

is_journaled : map (answer_under old_sheet) (answers_kept (sheeted_answers (one old_sheet) (begun (one old_sheet)) journals_gpu))
    ≡ record { words = HasJournaled 1; sends = Some (CarriesBatch (read of_gpu)) } ∷ []
unfolding days_from_civil day_count days_of_years days_of_months worth_of decimals_of digits
is_journaled = refl

abbrev first_lacks : List Answer → Bool
first_lacks [] = false
first_lacks (x ∷ xs) = lacks_price x

-- A process that has the longer sheet, and goes back to the shorter one: what was journaled under the first is refused under the second.
answers_of_a_shorter_sheet : AnswersOf (λ last old. last.base ≡ old.base) → ⊥
answers_of_a_shorter_sheet law =
    true≢false (ap first_lacks (
    sym is_refused_later
    ∙ (law (one old_sheet) journals_gpu ((lit≤ tt, lit≤ tt) ⨾ tt)
    (All-cons (λ (x : SheetedAct). old_sheet.base ≡ x.sheet.base) (record { sheet = new_sheet; act = AgentDoes 1 (JournalBatch (Good of_gpu)) }) [] refl
    (All-nil (λ (x : SheetedAct). old_sheet.base ≡ x.sheet.base)))
    ∙ is_journaled)))

-- CPU time of February
abbrev text : List ℕ
text = codes "B1|1|1|1\nU|2025-02-03T00:00:00Z|2025-02-03T01:00:00Z|acc-7|vm-1|cpu|3600||\n"

abbrev batch : Batch
batch = read text

abbrev none : Cut
none = 0 ∷ []

-- The same sheet, but its group begins with February: so January's cut is February's, and takes the batch.
abbrev from_february : Sheet
from_february = record old_sheet { base = january_2025 + 1 }

abbrev proposing : List Act
proposing =
    AgentDoes 1 (JournalBatch (Good text)) ∷ takes 0 (CarriesBatch batch) ∷ NodeDoes 0 BeginBallot ∷ takes 0 (Prepare 0 1) ∷ takes 0 (Promise 0 0 1 None) ∷ []

abbrev proposes : List SheetedAct
proposes = under old_sheet proposing

proposes_is_history : IsSheetedHistory (one from_february) (begun (one from_february)) proposes
unfolding days_from_civil day_count days_of_years days_of_months worth_of decimals_of digits
proposes_is_history =
    (lit≤ tt, lit≤ tt) ⨾
    (lit< tt, λ same. (0, lit< tt, refl)) ⨾
    (lit< tt, tt) ⨾
    (lit< tt, λ same. (1, lit< tt, refl)) ⨾
    (lit< tt, λ same. (2, lit< tt, refl)) ⨾ tt

-- how far the agent's batches are closed by the cut that the fifth answer proposes
abbrev proposed_in : Option Packet → ℕ
proposed_in (Some (Accept period ballot c)) = last_of c 1
proposed_in _ = 7

abbrev fifth : List Answer → ℕ
fifth xs = elim (slice_get xs 4) [ Some x ↦ proposed_in x.sends | None ↦ 7 ]

proposes_later : fifth (answers (one from_february) (begun (one from_february)) (acts_kept proposes (sheeted_answers (one from_february) (begun (one from_february)) proposes)))
    ≡ 1
unfolding days_from_civil day_count days_of_years days_of_months worth_of decimals_of digits
proposes_later = refl

proposed : fifth (map (answer_under from_february) (answers_kept (sheeted_answers (one from_february) (begun (one from_february)) proposes)))
    ≡ 0
unfolding days_from_civil day_count days_of_years days_of_months worth_of decimals_of digits
proposed = refl

answers_of_another_base : AnswersOf (λ last old. PricesAllOf old last) → ⊥
answers_of_another_base law =
    let same : 1 ≡ 0 = sym proposes_later ∙ (ap fifth (law (one from_february) proposes proposes_is_history (priced proposing)) ∙ proposed) in
    omega (arith, same)
  where
    Priced : SheetedAct → Type 0
    Priced x = PricesAllOf x.sheet from_february

    priced : (ones : List Act) → All Priced (under old_sheet ones)
    priced [] = All-nil Priced
    priced (a ∷ ones) = All-cons Priced (record { sheet = old_sheet; act = a }) (under old_sheet ones) (λ r fit. fit) (priced ones)

-- What goes wrong where one process of a group was begun with another sheet, or with another issuer, than the others: two files of one period whose
-- bytes differ. Every act is as it should be, and no packet tells any process what another one was begun with.
use Rattle.std.proofs.Common.{ap, arith, subst}
use Rattle.std.specs.Prelude.{◌≡◌, ℕ, ◌==◌, Bool, true, false, if◌then◌else◌, List, [], ◌∷◌, None, slice_index, codes, refl}
use Rattle.std.specs.Fmt.{digits}
use Rattle.std.proofs.Math.Dec.{lit<, lit≤}
use Rattle.jiff_core.specs.Calendar.{days_from_civil, day_count, days_of_years, days_of_months}
use Rattle.metering_model.specs.NumberText.{worth_of, decimals_of}
use Rattle.metering_model.specs.Sheet.{Sheet, Issuer}
use Rattle.metering_model.specs.Transcript.{file_of}
use Rattle.metering_model.specs.World.{CarriesBatch, Prepare, Promise, Accept, Accepted, Snapshot}
use Rattle.metering_model.proofs.Samples.{cpu, sheet_0, issuer_1}
use Rattle.process_laws.specs.LocalSteps.{Group, BeginBallot, ExportPeriod, Answer}
use Rattle.process_laws.specs.Histories.{Processes, Act, NodeDoes, NodeGoesOn, AgentDoes, AgentGoesOn, acted, begun, MayAct, IsHistory}
use Rattle.process_laws.proofs.EachAct.{◌⨾◌}
use Rattle.process_laws.proofs.FalseHistories.{group, takes, c, journals_c, high, up_to, HaveTwoFiles}

-- ---- a group of which one process was begun otherwise

-- with what the process of an act was begun: node 1 with the other description, and all others with the one
abbrev begun_with : (one other : Group) → Act → Group
begun_with one other (NodeDoes i command) = if i == 1 then other else one
begun_with one other (NodeGoesOn i stored) = if i == 1 then other else one
begun_with one other (AgentDoes a command) = one
begun_with one other (AgentGoesOn a stored) = one

-- a history, but that each act is done by what its process was begun with
abbrev IsHistoryOfBoth : (one other : Group) → Processes → List Act → Type 0
IsHistoryOfBoth one other s [] = Unit {0}
IsHistoryOfBoth one other s (a ∷ acts) =
    MayAct (begun_with one other a) s a × IsHistoryOfBoth one other (acted (begun_with one other a) s a).after acts

abbrev answers_of_both : (one other : Group) → Processes → List Act → List Answer
answers_of_both one other s [] = []
answers_of_both one other s (a ∷ acts) =
    (acted (begun_with one other a) s a).answer ∷ answers_of_both one other (acted (begun_with one other a) s a).after acts

-- Node 1 was begun otherwise, and the group goes wrong.
record GoesWrongTogether (one other : Group) (acts : List Act) : Type 0 where
  -- each act may be done where it stands, by its process as that was begun
  pub rightly : IsHistoryOfBoth one other (begun one) acts
  -- two of the answers are exports of one period
  pub files : HaveTwoFiles (answers_of_both one other (begun one) acts) (answers_of_both one other (begun one) acts)

either : (t : Bool) (g : Group) → (if t then g else g) ≡ g
either true g = refl
either false g = refl

alike : (g : Group) (a : Act) → begun_with g g a ≡ g
alike g (NodeDoes i command) = either (i == 1) g
alike g (NodeGoesOn i stored) = either (i == 1) g
alike g (AgentDoes a command) = refl
alike g (AgentGoesOn a stored) = refl

-- Where all were begun alike it is a history: so no other premise is dropped.
begun_alike_it_is_a_history : (g : Group) (s : Processes) (acts : List Act) → IsHistoryOfBoth g g s acts → IsHistory g s acts
begun_alike_it_is_a_history g s [] history = tt
begun_alike_it_is_a_history g s (a ∷ acts) history =
    let behind = subst (λ h. IsHistoryOfBoth g g (acted h s a).after acts) (alike g a) history.1 in
    (subst (λ h. MayAct h s a) (alike g a) history.0, begun_alike_it_is_a_history g (acted g s a).after acts behind)

-- ---- what is done

-- Node 0 gets the agent's batch, chooses the cut up to it, and exports. Node 1 gets the same batch, learns the same cut, and exports too.
abbrev both_export : List Act
both_export =
    journals_c ∷ takes 0 (CarriesBatch c) ∷ takes 1 (CarriesBatch c) ∷ NodeDoes 0 BeginBallot ∷ takes 0 (Prepare 0 1) ∷ takes 0 (Promise 0 0 1 None)
    ∷ takes 0 (Accept 0 1 high) ∷ takes 0 (Accepted 0 0 1 high) ∷ takes 1 (Accepted 0 0 1 high) ∷ NodeDoes 0 (ExportPeriod 0) ∷ NodeDoes 1 (ExportPeriod 0)
    ∷ []

-- the group of the examples, with one voter, one observer and one agent; and what is alike but for the sheet and the issuer
abbrev one : Group
one = group 1 1

abbrev under : Sheet → Issuer → Group
under sheet issuer = record one { sheet = sheet; issuer = issuer }

-- whatever sheet and issuer node 1 was begun with, each act may be done
may_be_done : (sheet : Sheet) (issuer : Issuer) → IsHistoryOfBoth one (under sheet issuer) (begun one) both_export
unfolding days_from_civil day_count days_of_years days_of_months worth_of decimals_of digits
may_be_done sheet issuer =
    (lit≤ tt, lit≤ tt) ⨾
    (lit< tt, λ same. (0, lit< tt, refl)) ⨾
    (lit< tt, λ same. (0, lit< tt, refl)) ⨾
    (lit< tt, tt) ⨾
    (lit< tt, λ same. (1, lit< tt, refl)) ⨾
    (lit< tt, λ same. (2, lit< tt, refl)) ⨾
    (lit< tt, λ same. (3, lit< tt, refl)) ⨾
    (lit< tt, λ same. (4, lit< tt, refl)) ⨾
    (lit< tt, λ same. (4, lit< tt, refl)) ⨾
    (lit< tt, tt) ⨾
    (lit< tt, tt) ⨾ tt

abbrev exported : Sheet → Issuer → Snapshot
exported sheet issuer = record (up_to high (c ∷ [])) { sheet = sheet; issuer = issuer }

-- ---- two sheets

-- the same sheet, but for a price
abbrev dearer : Sheet
dearer = record sheet_0 { prices = record cpu { contracted = 90_000 } ∷ [] }

-- the reading is billed at 0.12 and at 0.135
costs_differ : file_of (exported sheet_0 issuer_1) ≡ file_of (exported dearer issuer_1) → ⊥
unfolding days_from_civil day_count days_of_years days_of_months worth_of decimals_of digits
costs_differ same = let bytes : ◌≡◌ {A = ℕ} 50 51 = ap (λ t. slice_index t 578) same in absurd (omega (arith, bytes))

two_sheets_make_two_files : GoesWrongTogether one (record one { sheet = dearer }) both_export
unfolding days_from_civil day_count days_of_years days_of_months worth_of decimals_of digits
two_sheets_make_two_files = record {
  rightly = may_be_done dearer issuer_1;
  files = record {
    one = exported sheet_0 issuer_1;
    other = exported dearer issuer_1;
    has = (9, lit< tt, refl);
    had = (10, lit< tt, refl);
    same_period = refl;
    differ = costs_differ;
  };
}

-- ---- two issuers

-- the same issuer, but for its name
abbrev renamed : Issuer
renamed = record issuer_1 { issuer = codes "Sample Cloud Inc" }

-- the two names stand in the column InvoiceIssuerName
names_differ : file_of (exported sheet_0 issuer_1) ≡ file_of (exported sheet_0 renamed) → ⊥
unfolding days_from_civil day_count days_of_years days_of_months worth_of decimals_of digits
names_differ same = let bytes : ◌≡◌ {A = ℕ} 76 73 = ap (λ t. slice_index t 761) same in absurd (omega (arith, bytes))

two_issuers_make_two_files : GoesWrongTogether one (record one { issuer = renamed }) both_export
unfolding days_from_civil day_count days_of_years days_of_months worth_of decimals_of digits
two_issuers_make_two_files = record {
  rightly = may_be_done sheet_0 renamed;
  files = record {
    one = exported sheet_0 issuer_1;
    other = exported sheet_0 renamed;
    has = (9, lit< tt, refl);
    had = (10, lit< tt, refl);
    same_period = refl;
    differ = names_differ;
  };
}

-- What is exported meets the rules of the journals.
use Rattle.std.proofs.Common.{◌≡◌, ℕ, ◌+◌, Bool, true, false, if◌then◌else◌, take, refl, sym, ap, ◌∙◌, Option, Some, None, Result, Ok, Err}
use Rattle.std.proofs.lemmas.Bool.{and_parts}
use Rattle.std.specs.Prelude.{not, slice_get}
use Rattle.std.specs.Option.{is_some}
use Rattle.metering_model.specs.declared.BrokenRule.{BrokenRule}
use Rattle.metering_model.specs.declared.Refusal.{Refusal}
use Rattle.metering_model.specs.Sheet.{Sheet}
use Rattle.metering_model.specs.Cut.{Cut, IsAtLeast, zero_cut}
use Rattle.metering_model.specs.Holding.{Holding, IsHolding, records_in_order, up_to}
use Rattle.metering_model.specs.JournalRules.{MeetsJournalRules, first_broken}
use Rattle.metering_model.specs.Step.{cut_before, first_missing}
use Rattle.metering_model.specs.World.{Node, Snapshot}
use Rattle.journal_rules.proofs.RuleLaws.{rules_met}
use Rattle.process_laws.specs.LocalSteps.{Answer, Group, HasExported, OfModel, Unfit, are_growing, exporting, is_fit, is_unbroken, refusing, saying, snapshot_by}
use Rattle.group_process.specs.Inner.Snapshots.{snapshot_up_to}
use Rattle.group_process.proofs.Growing.{goes_on_from_before}

none_of_not : {A : Type 0} (o : Option A) → not (is_some o) ≡ true → o ≡ None
none_of_not None e = refl
none_of_not (Some x) e = absurd (cc)

swapped_not : (t u : Bool) → t ≡ not u → u ≡ not t
swapped_not true true e = absurd (cc)
swapped_not true false e = refl
swapped_not false true e = refl
swapped_not false false e = absurd (cc)

-- a node, and the cut that it has learned for a period
module _ (g : Group) (n : Node) (p : ℕ) (to : Cut) where
  abbrev Fit : Bool → Type 0
  Fit t = is_fit g n (snapshot_up_to g n p to) ≡ t

  -- the tests by which it is fit
  pub fit_told : (sheet : Sheet) (h : Holding) (o : Option BrokenRule) (grow none : Bool) → grow ≡ are_growing (zero_cut g.agents) (take (p + 1) n.kept.learned) → grow ≡ true
      → o ≡ first_broken sheet (up_to to h) (records_in_order (up_to to h)) → is_some o ≡ not none → sheet ≡ g.sheet → h ≡ n.kept.holding → none ≡ is_fit g n (snapshot_up_to g n p to)
  fit_told sheet h o grow none growing grows broken some same_sheet same_holding =
      rw (← growing, grows, ← same_sheet, ← same_holding, ← broken) (swapped_not (is_some o) none some)

  pub fit_grows : Fit true → slice_get n.kept.learned p ≡ Some to → IsAtLeast to (cut_before g.agents n.kept.learned p)
  fit_grows fit found = goes_on_from_before g.agents p n.kept.learned to (and_parts _ (is_unbroken (snapshot_up_to g n p to)) fit).0 found

  pub fit_meets : Fit true → IsHolding n.kept.holding → first_missing n.kept.holding to ≡ None → MeetsJournalRules g.sheet (up_to to n.kept.holding)
  fit_meets fit ok whole = rules_met n.kept.holding to ok whole g.sheet (none_of_not _ (and_parts _ (is_unbroken (snapshot_up_to g n p to)) fit).1)

  module _ (found : slice_get n.kept.learned p ≡ Some to) (whole : first_missing n.kept.holding to ≡ None) where
    exported_by : (t : Bool) → Fit t → (if t then saying (HasExported (snapshot_up_to g n p to)) else refusing Unfit) ≡ exporting g n p
    exported_by t fit =
        let taken : snapshot_by g n p ≡ Ok (snapshot_up_to g n p to) = rw (found, whole) refl in
        sym (ap (λ r. by_snapshot r) taken ∙ ap (λ t. if t then saying (HasExported (snapshot_up_to g n p to)) else refusing Unfit) fit)
      where
        by_snapshot : Result Snapshot Refusal → Answer
        by_snapshot (Ok s) = if is_fit g n s then saying (HasExported s) else refusing Unfit
        by_snapshot (Err why) = refusing (OfModel why)

    -- what is told of a file that is fit, and of one that is not
    pub exported_told : Fit true → saying (HasExported (snapshot_up_to g n p to)) ≡ exporting g n p
    exported_told fit = exported_by true fit

    pub unfit_told : Fit false → refusing Unfit ≡ exporting g n p
    unfit_told unfit = exported_by false unfit

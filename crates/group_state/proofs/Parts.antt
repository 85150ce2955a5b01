-- What the parts of a reached world keep.
use Rattle.std.proofs.Common.{◌≡◌, ℕ, zero, suc, ◌<◌, ◌≤◌, true, List, [], ◌∷◌, length, arith, sym, subst, Option, Some, None}
use Rattle.std.specs.Prelude.{slice_get, unwrap_or}
use Rattle.std.specs.Option.{is_some}
use Rattle.std.proofs.lemmas.Option.{same_Some, none-some}
use Rattle.metering_model.specs.Sheet.{Sheet}
use Rattle.metering_model.specs.Cut.{Cut, IsAtLeast, GrowsFrom, IsGrowing, zero_cut}
use Rattle.metering_model.specs.Holding.{Holding, IsHolding, IsPartOf, AgreeUpTo, held, up_to}
use Rattle.metering_model.specs.JournalRules.{MeetsJournalRules, next_seq}
use Rattle.metering_model.specs.World.{World, Node, voter_count}
use Rattle.metering_model.specs.Step.{cut_before}
use Rattle.metering_model.proofs.HoldingLaws.{same_up_to}
use Rattle.metering_model.proofs.Journals.{next_not_held}
use Rattle.metering_model.proofs.NextLaws.{held_below_next}
use Rattle.metering_model.proofs.RulesUpToCut.{MeetsJournalRules-up_to}
use Rattle.group_laws.proofs.Limits.{at_entry}
use Rattle.group_laws.specs.EveryRun.{IsNode, IsJournaledCut}
use Rattle.group_state.specs.Reached.{IsReached}
use Rattle.group_state.proofs.Reaching.{limits_here}

-- the node that is found is one
pub node_here : (w : World) (i : ℕ) (n : Node) → IsReached w → slice_get w.nodes i ≡ Some n → IsNode (voter_count w) w.agents w.journals n
node_here w i n h found = at_entry (IsNode (voter_count w) w.agents w.journals) w.nodes i n (limits_here w h).each_node found

-- Where nothing is missing below it, the first sequence that is absent is the next one.
pub next_is_absent : (sheet : Sheet) (h : Holding) (agent r : ℕ) → MeetsJournalRules sheet h → held h agent r ≡ None → 1 ≤ r
    → ((seq : ℕ) → 1 ≤ seq → seq < r → is_some (held h agent seq) ≡ true) → r ≡ next_seq h agent
next_is_absent sheet h agent r rules absent from below =
    let not_below : r < next_seq h agent → ⊥ = λ low. none_there (held h agent r) absent (held_below_next sheet h agent r rules from low) in
    let not_above : next_seq h agent < r → ⊥ = λ high. none_there (held h agent (next_seq h agent)) (next_not_held sheet h agent rules) (below (next_seq h agent) (omega arith) high) in
    omega (arith, not_below, not_above)
  where
    none_there : {A : Type 0} (o : Option A) → o ≡ None → is_some o ≡ true → ⊥
    none_there None e f = absurd (cc)
    none_there (Some x) e f = absurd (cc)

-- ---- what an export is made of

-- each cut is at least the one before it, and the first at least that from which they grow
grows_at : (before default : Cut) (cuts : List Cut) (p : ℕ) (to : Cut) → GrowsFrom before cuts → slice_get cuts p ≡ Some to
    → IsAtLeast to (elim p [ zero ↦ before | suc q ↦ unwrap_or (slice_get cuts q) default ])
grows_at before default [] p to h e = absurd (none-some to e)
grows_at before default (c ∷ cs) zero to h e = subst (λ d. IsAtLeast d before) (same_Some c to e) h.0
grows_at before default (c ∷ cs) (suc zero) to h e = grows_at c default cs zero to h.1 e
grows_at before default (c ∷ cs) (suc (suc q)) to h e = grows_at c default cs (suc q) to h.1 e

pub grows_from_before : (agents p : ℕ) (cuts : List Cut) (to : Cut) → IsGrowing agents cuts → slice_get cuts p ≡ Some to → IsAtLeast to (cut_before agents cuts p)
grows_from_before agents zero cuts to h e = grows_at (zero_cut agents) (zero_cut agents) cuts zero to h e
grows_from_before agents (suc q) cuts to h e = grows_at (zero_cut agents) (zero_cut agents) cuts (suc q) to h e

-- a learned cut has an entry for each agent
pub learned_size : (voters agents : ℕ) (journals : Holding) (n : Node) (p : ℕ) (to : Cut) → IsNode voters agents journals n → slice_get n.kept.learned p ≡ Some to → length to ≡ agents
learned_size voters agents journals n p to h e = (at_entry (IsJournaledCut agents journals) n.kept.learned p to h.learned e).size

module _ (sheet : Sheet) (h journals : Holding) (to : Cut) (is_holding : IsHolding h) (part : IsPartOf h journals) (rules : MeetsJournalRules sheet journals) (agree : AgreeUpTo to h journals) where
  -- the batches up to the cut are the journals', and so keep the rules
  pub rules_of_export : MeetsJournalRules sheet (up_to to h)
  rules_of_export = subst (MeetsJournalRules sheet) (sym (same_up_to to h journals is_holding rules.is_holding agree)) (MeetsJournalRules-up_to sheet to journals rules)

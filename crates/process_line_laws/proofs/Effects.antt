-- What an act makes of the one process that does it, and that it leaves all others as they were.
use Rattle.std.proofs.Common.{◌≡◌, ℕ, Bool, false, List, [], ◌∷◌, ◌++◌, Option, Some, None, refl, sym, ap, ◌∙◌}
use Rattle.std.specs.Prelude.{◌==◌, if◌then◌else◌, slice_get}
use Rattle.std.proofs.lemmas.Bool.{eq-eqb, true≢false}
use Rattle.std.proofs.lemmas.Option.{none-some, same_Some}
use Rattle.metering_model.specs.World.{Node}
use Rattle.group_laws.proofs.WithoutObservers.{set_other}
use Rattle.process_laws.specs.LocalSteps.{Group, NodeDone, AgentDone, OfModel, refusing}
use Rattle.process_laws.specs.Histories.{Processes, Act, Acted, IsHistory, MayAct, acted, after, by_node, with_agent_done, with_node_done}
use Rattle.process_laws.proofs.MatchedActs.{after_more}
use Rattle.metering_model.specs.declared.Refusal.TheVariants.{NoNode}

-- ---- one act more, behind a history

pub history_more : (g : Group) (s : Processes) (acts : List Act) (a : Act) → IsHistory g s acts → MayAct g (after g s acts) a
    → IsHistory g s (acts ++ a ∷ [])
history_more g s [] a history may = (may, tt)
history_more g s (b ∷ acts) a history may = (history.0, history_more g (acted g s b).after acts a history.1 may)

pub after_one : (g : Group) (s : Processes) (acts : List Act) (a : Act) → after g s (acts ++ a ∷ []) ≡ (acted g (after g s acts) a).after
after_one g s acts a = after_more g acts (a ∷ []) s

-- ---- a node's act

pub node_acted : (s : Processes) (i : ℕ) (does : Node → NodeDone) (n : Node) (d : NodeDone) → slice_get s.nodes i ≡ Some n → does n ≡ d
    → by_node i s does ≡ with_node_done i d s
node_acted s i does n d there is = by_found (slice_get s.nodes i) there
  where
    by_found : (o : Option Node) → o ≡ Some n → elim o as (λ _. Acted) [
      | Some n ↦ with_node_done i (does n) s
      | None ↦ record { answer = refusing (OfModel NoNode); after = s }
    ] ≡ with_node_done i d s
    by_found None e = absurd (none-some n e)
    by_found (Some m) e = ap (λ d. with_node_done i d s) (ap does (same_Some m n e) ∙ is)

other_place : (i j : ℕ) → (i == j) ≡ false → i ≡ j → ⊥
other_place i j differ same = true≢false (sym (eq-eqb i j same) ∙ differ)

-- the other nodes stay
pub node_stays : (s : Processes) (i j : ℕ) (d : NodeDone) → (j == i) ≡ false
    → slice_get (with_node_done i d s).after.nodes j ≡ slice_get s.nodes j
node_stays s i j d differ = set_other s.nodes i j d.node (other_place j i differ)

pub journal_there : (s : Processes) (a : ℕ) (d : AgentDone) → (with_agent_done a d s).after.journals a ≡ d.journal
journal_there s a d = ap (λ (b : Bool). if b then d.journal else s.journals a) (eq-eqb a a refl)

pub journal_stays : (s : Processes) (a b : ℕ) (d : AgentDone) → (b == a) ≡ false → (with_agent_done a d s).after.journals b ≡ s.journals b
journal_stays s a b d differ = ap (λ (t : Bool). if t then d.journal else s.journals b) differ

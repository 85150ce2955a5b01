-- Each batch of the journals is of an agent that the world has.
use Rattle.std.proofs.Common.{◌≡◌, ℕ, ◌≤◌, List, sym, subst, ◌∙◌, Option, Some, None, inl, inr}
use Rattle.std.proofs.lemmas.Bool.{cases_Bool}
use Rattle.std.proofs.lemmas.Option.{none-some}
use Rattle.metering_model.specs.Batch.{Batch}
use Rattle.metering_model.specs.Sheet.{Sheet, Issuer}
use Rattle.metering_model.specs.Holding.{held, put, is_batch_at}
use Rattle.metering_model.specs.World.{World, Node, Packet, Event, wake, opening_with}
use Rattle.metering_model.specs.Deliveries.{handled}
use Rattle.metering_model.specs.Step.{play}
use Rattle.metering_model.proofs.BatchOrder.{place_of_batch}
use Rattle.metering_model.proofs.HoldingLaws.{held-put_other}
use Rattle.group_laws.proofs.StepCases.{after, started, start_packet, journaling, IsNext, IsKeptBySteps}
use Rattle.group_laws.proofs.Forms.{HasForms-opening, play_kept}

pub record HasAgents (w : World) : Type 0 where
  pub each : (agent seq : ℕ) (b : Batch) → held w.journals agent seq ≡ Some b → agent ≤ w.agents

journaled : (w : World) (b : Batch) → HasAgents w → IsNext w b → HasAgents (journaling w b)
journaled w b h next = record { each = each }
  where
    each : (agent seq : ℕ) (c : Batch) → held (put w.journals b) agent seq ≡ Some c → agent ≤ w.agents
    each agent seq c is = elim (cases_Bool (is_batch_at agent seq b)) [
      | inl t ↦ subst (λ a. a ≤ w.agents) (place_of_batch agent seq b t).0 next.agent
      | inr f ↦ h.each agent seq c (sym (held-put_other w.journals b agent seq f) ∙ is)
    ]

agents_after : (w : World) (i : ℕ) (n : Node) (o : Option Packet) → HasAgents w → HasAgents (after w i n o)
agents_after w i n None h = record { each = h.each }
agents_after w i n (Some q) h = record { each = h.each }

HasAgents-steps : IsKeptBySteps HasAgents
HasAgents-steps = record {
  journals = journaled;
  delivers = λ w i n q h may. agents_after w i (handled w i n q).node (handled w i n q).sends h;
  starts = λ w i n h may. agents_after w i (started w i n) (Some (start_packet w i n)) h;
  restarts = λ w i n h found. agents_after w i (wake n.kept) None h;
}

pub has_agents : (room voters observers agents : ℕ) (sheet : Sheet) (issuer : Issuer) (events : List Event) → HasAgents (play (opening_with room voters observers agents sheet issuer) events).1
has_agents room voters observers agents sheet issuer events =
    play_kept HasAgents HasAgents-steps events (opening_with room voters observers agents sheet issuer) (HasForms-opening room voters observers agents sheet issuer) (record { each = λ agent seq b is. absurd (none-some b is) })

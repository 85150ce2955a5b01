-- Processes, and the world that they stand for: what is known of the two before each act, and what one act makes of both.
use Rattle.std.proofs.Common.{◌≡◌, ◌⊎◌, ℕ, ◌≤◌, true, List, [], ◌∷◌, ◌++◌, length, sym, ap, subst, ◌∙◌, All}
use Rattle.std.specs.Prelude.{◌↔◌}
use Rattle.std.specs.List.{Contains}
use Rattle.std.proofs.lemmas.List.Elements.{Contains-push}
use Rattle.metering_model.specs.Holding.{Holding}
use Rattle.metering_model.specs.World.{World, Node, Packet, Event, Reply, Snapshot, Exported}
use Rattle.metering_model.specs.Step.{Outcome, step, play}
use Rattle.metering_model.proofs.PlayLaws.{play-last, replies-last}
use Rattle.group_laws.specs.EveryRun.{KeepsLimits}
use Rattle.group_laws.specs.OneAgent.{batches_of}
use Rattle.group_laws.proofs.EveryRun.{holds_after}
use Rattle.group_laws.proofs.Limits.{keeps_limits}
use Rattle.process_laws.specs.LocalSteps.{Group, Answer, is_unbroken}
use Rattle.process_laws.specs.Histories.{Processes, Act, Acted, IsEventOf, IsNoEvent, Tells, opened}
use Rattle.process_laws.proofs.CarriedBatches.{WasCarried, has_carried}
use Rattle.process_laws.proofs.FitExports.{is_unbroken-export}

-- the world of a group with these journals, packets and nodes
abbrev pub world_of : Group → ℕ → Holding → List Packet → List Node → World
world_of g room journals packets nodes = record {
  sheet = g.sheet;
  issuer = g.issuer;
  agents = g.agents;
  journals = journals;
  room = room;
  packets = packets;
  voters = g.voters;
  nodes = nodes;
}

-- ---- worlds that events lead to

pub record IsReached (g : Group) (room : ℕ) (w : World) : Type 0 where
  pub events : List Event
  pub leads : (play (opened g room) events).1 ≡ w

module _ (g : Group) (room : ℕ) (w : World) (h : IsReached g room w) where
  pub one_more : (e : Event) (o : Outcome) → step w e ≡ o → IsReached g room o.1
  one_more e o is = record {
    events = h.events ++ e ∷ [];
    leads = play-last (opened g room) h.events e ∙ (ap (λ v. (step v e).1) h.leads ∙ ap (λ (x : Outcome). x.1) is);
  }

  pub limits : KeepsLimits room g.voters g.observers g.agents w
  limits = subst (KeepsLimits room g.voters g.observers g.agents) h.leads (keeps_limits room g.voters g.observers g.agents g.sheet g.issuer h.events)

  pub carried : All (WasCarried w.packets) w.journals
  carried = subst (λ v. All (WasCarried v.packets) v.journals) h.leads (has_carried room g.voters g.observers g.agents g.sheet g.issuer h.events).each

  -- what an event exports breaks no rule
  pub unbroken : (e : Event) (s : Snapshot) → (step w e).0 ≡ Exported s → is_unbroken s ≡ true
  unbroken e s is =
      let events : List Event = h.events ++ e ∷ [] in
      let headline = holds_after room g.voters g.observers g.agents g.sheet g.issuer events in
      let last : (play (opened g room) events).0 ≡ (play (opened g room) h.events).0 ++ Exported s ∷ [] =
      replies-last (opened g room) h.events e ∙ ap (λ (r : Reply). (play (opened g room) h.events).0 ++ r ∷ []) (ap (λ v. (step v e).0) h.leads ∙ is) in
      is_unbroken-export (play (opened g room) events).1 headline.cuts s
      (headline.exports s (subst (λ (rs : List Reply). Contains rs (Exported s)) (sym last) (Contains-push (play (opened g room) h.events).0 (Exported s))))

-- ---- processes and their world

-- The nodes are the world's, each agent's journal is what the world's journals have of it, and what was sent is the same. There are at most as many
-- packets of the world, since a batch that is sent once more is a packet more of the processes alone.
pub record Stands (g : Group) (room : ℕ) (s : Processes) (journals : Holding) (packets : List Packet) : Type 0 where
  pub reached : IsReached g room (world_of g room journals packets s.nodes)
  pub journals_of : (agent : ℕ) → s.journals agent ≡ batches_of agent journals
  pub sent : (p : Packet) → Contains s.sent p ↔ Contains packets p
  pub fewer : length packets ≤ length s.sent

-- an act is an event of the world, and what comes of both stands for the other again
pub record ByEvent (g : Group) (room : ℕ) (s : Processes) (journals : Holding) (packets : List Packet) (a : Act) (x : Answer) (t : Processes) : Type 0 where
  pub event : Event
  pub is : IsEventOf (world_of g room journals packets s.nodes) a event
  pub reply : Reply
  pub journals_then : Holding
  pub packets_then : List Packet
  pub steps : step (world_of g room journals packets s.nodes) event ≡ (reply, world_of g room journals_then packets_then t.nodes)
  pub tells : Tells (world_of g room journals_then packets_then t.nodes) a reply x
  pub stands : Stands g room t journals_then packets_then

-- or it needs none, and the world stays
pub record ByNone (g : Group) (room : ℕ) (s : Processes) (journals : Holding) (packets : List Packet) (a : Act) (x : Answer) (t : Processes) : Type 0 where
  pub needs_none : IsNoEvent g (world_of g room journals packets s.nodes) a x
  pub nodes : t.nodes ≡ s.nodes
  pub stands : Stands g room t journals packets

-- where what is sent by then fits into the world
abbrev pub Comes : Group → ℕ → Processes → Holding → List Packet → Act → Acted → Type 0
Comes g room s journals packets a x =
    length x.after.sent ≤ room → ByEvent g room s journals packets a x.answer x.after ⊎ ByNone g room s journals packets a x.answer x.after

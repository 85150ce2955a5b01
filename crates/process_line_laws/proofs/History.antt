-- The acts of hosts come, one after another, to acts of a history.
use Rattle.std.proofs.Common.{◌≡◌, ℕ, List, [], ◌∷◌, ◌++◌, Option, Some, None, refl, sym, subst, inl, inr, append_assoc, append-nil}
use Rattle.std.specs.Prelude.{slice_get}
use Rattle.std.specs.Option.{option_map}
use Rattle.std.specs.List.{Contains}
use Rattle.std.proofs.lemmas.List.Elements.{All-contains_itself, All-weaker}
use Rattle.std.proofs.lemmas.Option.{none-some, same_Some}
use Rattle.metering_model.specs.World.{Node}
use Rattle.process_laws.specs.LocalSteps.{Answer, Group}
use Rattle.process_laws.specs.Histories.{Act, Processes, after, answers, begun}
use Rattle.packet_text.specs.PacketText.{HasPacketText}
use Rattle.log_text.specs.LogText.{AgentOf, NodeOf, Who}
use Rattle.process_text.specs.declared.processes.Process.{Process}
use Rattle.process_text.specs.declared.processes.Process.TheVariants as process
use Rattle.process_text.specs.Answers.{Answers}
use Rattle.process_player.specs.Runs.{Asked}
use Rattle.process_line_laws.specs.Hosts.{Asks, GoesOn, HostAct, IsHanded, IsHostHistory, Machines, MayAsk, MayDo, MayShorten, Shortens, all_done, begun_machines, done, said_by}
use Rattle.process_line_laws.specs.Comes.{AreTold, AsksNothing, ComeToHistory, StandFor}
use Rattle.process_line_laws.proofs.Answered.{ComesOf}
use Rattle.process_line_laws.proofs.AskedAgents.{agent_asked, agent_shortens}
use Rattle.process_line_laws.proofs.AskedNodes.{node_asked, node_shortens}
use Rattle.process_line_laws.proofs.Effects.{after_one}
use Rattle.process_line_laws.proofs.GoneOn.{gone_on}
use Rattle.process_line_laws.proofs.Logs.{keeps_read}
use Rattle.process_line_laws.proofs.Stands.{Stands, begun_stands, sent_written}

-- ---- one act

node_found : (g : Group) (i : ℕ) (o : Option Node) (p : Process)
    → option_map (λ n. process.Node (record { group = g; number = i; node = n })) o ≡ Some p
    → (n : Node) × (o ≡ Some n) × (process.Node (record { group = g; number = i; node = n }) ≡ p)
node_found g i None p is = absurd (none-some p is)
node_found g i (Some n) p is = (n, refl, same_Some _ p is)

module _ (g : Group) (m : Machines) (acts : List Act) (stands : Stands g m acts) where
  abbrev s : Processes
  s = after g (begun g) acts

  asks_comes : (w : Who) (asked : Asked) (next : Process) (said : List ℕ) → MayAsk g m w asked next said
      → ComesOf g m acts (Asks w asked next said) said
  asks_comes (NodeOf i) asked next said may =
      let old = (stands.stand.each (NodeOf i)).there may.old may.runs in
      let n = node_found g i (slice_get s.nodes i) may.old old.0 in
      node_asked g m acts stands i n.0 n.1 old.1 asked next said
      (subst (λ p. Answers p asked.first asked.below next said) (sym n.2) may.does.answers)
      (subst (λ p. IsHanded g m.sent p asked) (sym n.2) may.handed)
  asks_comes (AgentOf a) asked next said may =
      let old = (stands.stand.each (AgentOf a)).there may.old may.runs in
      agent_asked g m acts stands a old.1 asked next said
      (subst (λ p. Answers p asked.first asked.below next said) (sym (same_Some _ may.old old.0)) may.does.answers)

  shortens_comes : (w : Who) (next : Process) (said : List ℕ) → MayShorten m w next said → ComesOf g m acts (Shortens w next said) said
  shortens_comes (NodeOf i) next said may =
      let old = (stands.stand.each (NodeOf i)).there may.old may.runs in
      let n = node_found g i (slice_get s.nodes i) may.old old.0 in
      node_shortens g m acts stands i n.0 n.1 old.1 next said (subst (λ p. Answers p _ _ next said) (sym n.2) may.does.answers)
  shortens_comes (AgentOf a) next said may =
      let old = (stands.stand.each (AgentOf a)).there may.old may.runs in
      agent_shortens g m acts stands a old.1 next said
      (subst (λ p. Answers p _ _ next said) (sym (same_Some _ may.old old.0)) may.does.answers)

  act_comes : (h : HostAct) → MayDo g m h → ComesOf g m acts h (said_by h)
  act_comes (Asks w asked next said) may = asks_comes w asked next said may
  act_comes (GoesOn w text first) may = gone_on g m acts stands w text first may
  act_comes (Shortens w next said) may = shortens_comes w next said may

-- ---- one after another

-- from there on, acts of a history, whose answers are just what is said
record ComeOn (g : Group) (m : Machines) (before : List Act) (hosts : List HostAct) : Type 0 where
  pub acts : List Act
  pub told : AreTold g.name hosts acts (answers g (after g (begun g) before) acts)
  pub stands : Stands g (all_done g m hosts) (before ++ acts)

nothing_first : (name : List ℕ) (h : HostAct) (hs : List HostAct) (acts : List Act) (xs : List Answer) → AsksNothing h
    → AreTold name hs acts xs → AreTold name (h ∷ hs) acts xs
nothing_first name h hs [] xs none rest = (none, rest)
nothing_first name h [] (a ∷ acts) [] none rest = absurd rest
nothing_first name h (k ∷ hs) (a ∷ acts) [] none rest = absurd rest
nothing_first name h hs (a ∷ acts) (x ∷ xs) none rest = inr (none, rest)

come_on : (g : Group) (hosts : List HostAct) (m : Machines) (before : List Act) → Stands g m before → IsHostHistory g m hosts
    → ComeOn g m before hosts
come_on g [] m before stands history = record { acts = []; told = tt; stands = subst (Stands g m) (sym (append-nil before)) stands }
come_on g (h ∷ hs) m before stands history = elim (act_comes g m before stands h history.0) [
  | inl one ↦
      let rest = come_on g hs (done g m h) (before ++ one.act ∷ []) one.stands history.1 in
      record {
        acts = one.act ∷ rest.acts;
        told = inl (
          one.is,
          one.says,
          subst (λ s. AreTold g.name hs rest.acts (answers g s rest.acts)) (after_one g (begun g) before one.act) rest.told,
        );
        stands = subst (Stands g (all_done g (done g m h) hs)) (append_assoc before (one.act ∷ []) rest.acts) rest.stands;
      }
  | inr none ↦
      let rest = come_on g hs (done g m h) before none.stands history.1 in
      record {
        acts = rest.acts;
        told = nothing_first g.name h hs rest.acts (answers g (after g (begun g) before) rest.acts) none.nothing rest.told;
        stands = rest.stands;
      }
]

stand_for : (g : Group) (m : Machines) (acts : List Act) → Stands g m acts → StandFor g m (after g (begun g) acts)
stand_for g m acts stands =
    let all = stands.stand in
    let sent = (after g (begun g) acts).sent in
    record {
      running = λ w p is. ((all.each w).there p is).0;
      logs = λ w p is short. let there = (all.each w).there p is in keeps_read ((all.each w).keeps p there.0) there.1 short;
      sent = all.sent;
      texts = λ w p is.
          All-weaker (Contains sent) (HasPacketText g.name)
          (λ q has. sent_written g acts w stands.history ((all.each w).there p is).1 q has) sent
          (All-contains_itself sent);
    }

pub come_to_history : (g : Group) (hosts : List HostAct) → IsHostHistory g (begun_machines g) hosts → ComeToHistory g hosts
come_to_history g hosts history =
    let all = come_on g hosts (begun_machines g) [] (begun_stands g) history in
    record {
      acts = all.acts;
      is_history = all.stands.history;
      told = all.told;
      stand = stand_for g (all_done g (begun_machines g) hosts) all.acts all.stands;
    }

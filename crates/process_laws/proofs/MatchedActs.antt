-- The acts of a history come, one after another, to events of a world that has room for all that is sent, and those of a longer history to more.
use Rattle.std.proofs.Common.{◌≡◌, ℕ, ◌<◌, ◌≤◌, List, [], ◌∷◌, ◌++◌, length, refl, sym, ap, subst, ◌∙◌, arith, Option, Some, None, inl, inr, All}
use Rattle.std.specs.Prelude.{◌≢◌, slice_get}
use Rattle.std.proofs.lemmas.List.Elements.{All-nil, All-cons}
use Rattle.metering_model.specs.Holding.{Holding}
use Rattle.metering_model.specs.World.{World, Node, Packet, Event, Reply, Refused}
use Rattle.metering_model.specs.declared.Refusal.TheVariants.{NoNode, WorldFull}
use Rattle.metering_model.specs.Step.{Outcome, step, play}
use Rattle.metering_model.proofs.PlayLaws.{play-append}
use Rattle.group_laws.proofs.Steps.{length-push}
use Rattle.process_laws.specs.LocalSteps.{Group, OfModel, Answer, refusing, NodeDone, node_does, node_goes_on}
use Rattle.process_laws.specs.Histories.{Processes, Act, Acted, NodeDoes, NodeGoesOn, AgentDoes, AgentGoesOn, sent_with, with_node_done, by_node, acted, answers, after, MayAct, IsHistory, IsLeftBy, Tells, IsNoEvent, AreMatched}
use Rattle.process_laws.proofs.Stands.{world_of, Stands, Comes}
use Rattle.process_laws.proofs.NodeActs.{node_comes, going_on_comes}
use Rattle.process_laws.proofs.AgentActs.{agent_comes, agent_goes_on_comes}
use Rattle.process_laws.proofs.NeverFull.{never_full}

-- ---- what is sent grows

grows_with : (sends : Option Packet) (sent : List Packet) → length sent ≤ length (sent_with sends sent)
grows_with None sent = omega arith
grows_with (Some p) sent = let more = length-push sent p in omega (arith, more)

node_grows : (i : ℕ) (s : Processes) (does : Node → NodeDone) → length s.sent ≤ length (by_node i s does).after.sent
node_grows i s does = by_found (slice_get s.nodes i)
  where
    by_found : (o : Option Node) → length s.sent ≤ length (elim o as (λ _. Acted) [
      | Some n ↦ with_node_done i (does n) s
      | None ↦ record { answer = refusing (OfModel NoNode); after = s }
    ]).after.sent
    by_found None = omega arith
    by_found (Some n) = grows_with (does n).answer.sends s.sent

act_grows : (g : Group) (s : Processes) (a : Act) → length s.sent ≤ length (acted g s a).after.sent
act_grows g s (NodeDoes i c) = node_grows i s (λ n. node_does g i n c)
act_grows g s (NodeGoesOn i stored) = node_grows i s (λ n. node_goes_on stored)
act_grows g s (AgentDoes a c) = grows_with (acted g s (AgentDoes a c)).answer.sends s.sent
act_grows g s (AgentGoesOn a stored) = grows_with None s.sent

acts_grow : (g : Group) (acts : List Act) (s : Processes) → length s.sent ≤ length (after g s acts).sent
acts_grow g [] s = omega arith
acts_grow g (a ∷ acts) s = let now = act_grows g s a in let rest = acts_grow g acts (acted g s a).after in omega (arith, now, rest)

-- ---- one act after another

comes : (g : Group) (room : ℕ) (s : Processes) (journals : Holding) (packets : List Packet) → Stands g room s journals packets
    → (a : Act) → MayAct g s a → Comes g room s journals packets a (acted g s a)
comes g room s journals packets h (NodeDoes i c) may = node_comes g room s journals packets h i may.0 c may.1
comes g room s journals packets h (NodeGoesOn i stored) may = going_on_comes g room s journals packets h i stored may.0 may.1 may.2
comes g room s journals packets h (AgentDoes a c) may = agent_comes g room s journals packets h a may.1 c
comes g room s journals packets h (AgentGoesOn a stored) may = agent_goes_on_comes g room s journals packets h a stored may.2

abbrev IsNotFull : Reply → Type 0
IsNotFull r = r ≢ Refused WorldFull

-- the acts are events from this world on, none of them refused for a full world, and stand for what they lead to
pub record AllAreMatched (g : Group) (room : ℕ) (w : World) (s : Processes) (acts : List Act) : Type 0 where
  pub events : List Event
  pub matched : AreMatched g w acts (answers g s acts) events
  pub not_full : All (λ r. r ≢ Refused WorldFull) (play w events).0
  pub journals : Holding
  pub packets : List Packet
  pub leads : (play w events).1 ≡ world_of g room journals packets (after g s acts).nodes
  pub stands : Stands g room (after g s acts) journals packets

-- an act that needs no event stands before the others
pub matched_before : (g : Group) (w : World) (a : Act) (x : Answer) (acts : List Act) (xs : List Answer) (es : List Event)
    → IsNoEvent g w a x → AreMatched g w acts xs es → AreMatched g w (a ∷ acts) (x ∷ xs) es
matched_before g w a x acts xs [] none rest = (none, rest)
matched_before g w a x acts xs (e ∷ es) none rest = inr (none, rest)

module _ (g : Group) (room : ℕ) where
  pub all_are_matched : (acts : List Act) (s : Processes) (journals : Holding) (packets : List Packet) → Stands g room s journals packets
      → IsHistory g s acts → length (after g s acts).sent < room → AllAreMatched g room (world_of g room journals packets s.nodes) s acts
  all_are_matched [] s journals packets h history few =
      record { events = []; matched = tt; not_full = All-nil IsNotFull; journals = journals; packets = packets; leads = refl; stands = h }
  all_are_matched (a ∷ acts) s journals packets h history few =
      let now : Acted = acted g s a in
      let w : World = world_of g room journals packets s.nodes in
      let before = act_grows g s a in
      let grows = acts_grow g acts now.after in
      let fewer = h.fewer in
      elim (comes g room s journals packets h a history.0 (omega (arith, grows, few))) [
        | inl one ↦
            let rest = all_are_matched acts now.after one.journals_then one.packets_then one.stands history.1 few in
            record {
              events = one.event ∷ rest.events;
              matched = inl (
                one.is,
                subst (λ (o : Outcome). Tells o.1 a o.0 now.answer) (sym one.steps) one.tells,
                subst (λ (o : Outcome). AreMatched g o.1 acts (answers g now.after acts) rest.events) (sym one.steps) rest.matched,
              );
              not_full = All-cons IsNotFull (step w one.event).0 (play (step w one.event).1 rest.events).0
                  (never_full w (omega (arith, fewer, before, grows, few)) one.event)
                  (subst (λ (o : Outcome). All IsNotFull (play o.1 rest.events).0) (sym one.steps) rest.not_full);
              journals = rest.journals;
              packets = rest.packets;
              leads = ap (λ (o : Outcome). (play o.1 rest.events).1) one.steps ∙ rest.leads;
              stands = rest.stands;
            }
        | inr none ↦
            let rest =
            subst (λ ns. AllAreMatched g room (world_of g room journals packets ns) now.after acts) none.nodes
            (all_are_matched acts now.after journals packets none.stands history.1 few) in
            record {
              events = rest.events;
              matched = matched_before g w a now.answer acts (answers g now.after acts) rest.events none.needs_none rest.matched;
              not_full = rest.not_full;
              journals = rest.journals;
              packets = rest.packets;
              leads = rest.leads;
              stands = rest.stands;
            }
      ]

-- ---- more acts

pub after_more : (g : Group) (acts more : List Act) (s : Processes) → after g s (acts ++ more) ≡ after g (after g s acts) more
after_more g [] more s = refl
after_more g (a ∷ acts) more s = after_more g acts more (acted g s a).after

answers_more : (g : Group) (acts more : List Act) (s : Processes) → answers g s (acts ++ more) ≡ answers g s acts ++ answers g (after g s acts) more
answers_more g [] more s = refl
answers_more g (a ∷ acts) more s = ap (λ xs. (acted g s a).answer ∷ xs) (answers_more g acts more (acted g s a).after)

history_parts : (g : Group) (acts more : List Act) (s : Processes) → IsHistory g s (acts ++ more) → IsHistory g s acts × IsHistory g (after g s acts) more
history_parts g [] more s history = (tt, history)
history_parts g (a ∷ acts) more s history = let rest = history_parts g acts more (acted g s a).after history.1 in ((history.0, rest.0), rest.1)

-- Where acts come to events, and more acts to more events from where those lead, all acts come to all events.
matched_more : (g : Group) (w : World) (acts : List Act) (xs : List Answer) (es : List Event) (more : List Act) (ys : List Answer) (fs : List Event)
    → AreMatched g w acts xs es → AreMatched g (play w es).1 more ys fs → AreMatched g w (acts ++ more) (xs ++ ys) (es ++ fs)
matched_more g w [] [] [] more ys fs first rest = rest
matched_more g w [] [] (e ∷ es) more ys fs first rest = absurd first
matched_more g w [] (x ∷ xs) es more ys fs first rest = absurd first
matched_more g w (a ∷ acts) [] es more ys fs first rest = absurd first
matched_more g w (a ∷ acts) (x ∷ xs) [] more ys fs first rest =
    matched_before g w a x (acts ++ more) (xs ++ ys) fs first.0 (matched_more g w acts xs [] more ys fs first.1 rest)
matched_more g w (a ∷ acts) (x ∷ xs) (e ∷ es) more ys fs (inl first) rest =
    inl (first.0, first.1, matched_more g (step w e).1 acts xs es more ys fs first.2 rest)
matched_more g w (a ∷ acts) (x ∷ xs) (e ∷ es) more ys fs (inr first) rest = inr (first.0, matched_more g w acts xs (e ∷ es) more ys fs first.1 rest)

pub left_by : (g : Group) (room : ℕ) (s : Processes) (journals : Holding) (packets : List Packet) → Stands g room s journals packets
    → IsLeftBy s (world_of g room journals packets s.nodes)
left_by g room s journals packets h = record { nodes = refl; journals = h.journals_of; sent = h.sent }

-- the acts come to events, and all with more come to those and later ones
pub matched_on : (g : Group) (room : ℕ) (acts more : List Act) (s : Processes) (journals : Holding) (packets : List Packet) → Stands g room s journals packets
    → IsHistory g s (acts ++ more) → length (after g s (acts ++ more)).sent < room
    → (events later : List Event) × AreMatched g (world_of g room journals packets s.nodes) acts (answers g s acts) events
    × AreMatched g (world_of g room journals packets s.nodes) (acts ++ more) (answers g s (acts ++ more)) (events ++ later)
    × IsLeftBy (after g s acts) (play (world_of g room journals packets s.nodes) events).1
    × IsLeftBy (after g s (acts ++ more)) (play (world_of g room journals packets s.nodes) (events ++ later)).1
matched_on g room acts more s journals packets h history few =
    let w : World = world_of g room journals packets s.nodes in
    let parts = history_parts g acts more s history in
    let whole : length (after g (after g s acts) more).sent < room = subst (λ (t : Processes). length t.sent < room) (after_more g acts more s) few in
    let grows = acts_grow g more (after g s acts) in
    let first = all_are_matched g room acts s journals packets h parts.0 (omega (arith, grows, whole)) in
    let rest = all_are_matched g room more (after g s acts) first.journals first.packets first.stands parts.1 whole in
    let end : Processes = after g (after g s acts) more in
    let leads : (play w (first.events ++ rest.events)).1 ≡ world_of g room rest.journals rest.packets end.nodes =
    play-append w first.events rest.events ∙ (ap (λ v. (play v rest.events).1) first.leads ∙ rest.leads) in (
      first.events,
      rest.events,
      first.matched,
      subst (λ xs. AreMatched g w (acts ++ more) xs (first.events ++ rest.events)) (sym (answers_more g acts more s))
          (matched_more g w acts (answers g s acts) first.events more (answers g (after g s acts) more) rest.events first.matched
          (subst (λ v. AreMatched g v more (answers g (after g s acts) more) rest.events) (sym first.leads) rest.matched)),
      subst (IsLeftBy (after g s acts)) (sym first.leads) (left_by g room (after g s acts) first.journals first.packets first.stands),
      subst (λ t. IsLeftBy t (play w (first.events ++ rest.events)).1) (sym (after_more g acts more s))
          (subst (IsLeftBy end) (sym leads) (left_by g room end rest.journals rest.packets rest.stands)),
    )

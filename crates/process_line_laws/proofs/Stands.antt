-- Machines, and the processes that they stand for: what is known of the two before each act of a host, and what one act makes of both.
use Rattle.std.proofs.Common.{◌≡◌, ℕ, ◌+◌, ◌≤◌, Bool, true, false, List, [], ◌∷◌, ◌++◌, length, map, Option, Some, None, refl, sym, ap, subst, ◌∙◌, arith, eqb-true, append-nil}
use Rattle.std.specs.Prelude.{if◌then◌else◌, slice_get, replicate}
use Rattle.std.specs.List.{Contains}
use Rattle.std.specs.Option.{option_map}
use Rattle.std.proofs.lemmas.List.Elements.{All-contains, Contains-push}
use Rattle.std.proofs.lemmas.Option.{none-some, same_Some}
use Rattle.metering_model.specs.World.{Node, Packet, new_kept, wake}
use Rattle.metering_model.specs.Step.{play}
use Rattle.group_laws.proofs.Steps.{get-replicate, length-replicate}
use Rattle.process_laws.specs.LocalSteps.{Group}
use Rattle.process_laws.specs.Histories.{Processes, Act, IsHistory, MayAct, acted, after, begun, opened, sent_with}
use Rattle.process_laws.proofs.DoneByWorld.{is_done_by_world}
use Rattle.packet_text.specs.PacketText.{HasPacketText, packet_text}
use Rattle.packet_text.proofs.SentByRuns.{run_written}
use Rattle.log_text.specs.LogText.{AgentOf, IsLogHead, NodeOf, Who}
use Rattle.process_text.specs.declared.processes.Process.{Process}
use Rattle.process_text.specs.declared.processes.Process.TheVariants as process
use Rattle.process_line_laws.specs.Told.{MayBeSent, texts_sent}
use Rattle.process_line_laws.specs.Hosts.{Machine, Machines, begun_machines, head_of, is_who, with_machine}
use Rattle.process_line_laws.specs.Comes.{kept_by, process_there}
use Rattle.process_line_laws.proofs.Effects.{after_one, history_more}
use Rattle.process_line_laws.proofs.Logs.{KeepsBy, keeps_nothing}

-- One machine and its process: what was begun there is that process, and the log tells what it keeps.
pub record OneStands (g : Group) (s : Processes) (w : Who) (m : Machine) : Type 0 where
  pub there : (p : Process) → m.runs ≡ Some p → (process_there g s w ≡ Some p) × IsLogHead (head_of g w)
  pub keeps : (p : Process) → process_there g s w ≡ Some p → KeepsBy (head_of g w) m.log (kept_by p)

-- all of them, and what was sent
pub record AllStand (g : Group) (m : Machines) (s : Processes) : Type 0 where
  pub size : length s.nodes ≡ g.voters + g.observers
  pub each : (w : Who) → OneStands g s w (m.machine w)
  pub sent : m.sent ≡ map (packet_text g.name) s.sent

-- behind acts that are a history
pub record Stands (g : Group) (m : Machines) (acts : List Act) : Type 0 where
  pub history : IsHistory g (begun g) acts
  pub stand : AllStand g m (after g (begun g) acts)

-- ---- before anything

new_stands : (g : Group) (w : Who) → OneStands g (begun g) w ((begun_machines g).machine w)
new_stands g (NodeOf i) =
    record {
      there = λ p is. absurd (none-some p is);
      keeps = λ p is. by_node (slice_get (replicate (g.voters + g.observers) (wake new_kept)) i) refl p is;
    }
  where
    by_node : (o : Option Node) → slice_get (replicate (g.voters + g.observers) (wake new_kept)) i ≡ o → (p : Process)
        → option_map (λ n. process.Node (record { group = g; number = i; node = n })) o ≡ Some p
        → KeepsBy (head_of g (NodeOf i)) ((begun_machines g).machine (NodeOf i)).log (kept_by p)
    by_node None is p e = absurd (none-some p e)
    by_node (Some n) is p e =
        subst (λ q. KeepsBy (head_of g (NodeOf i)) ((begun_machines g).machine (NodeOf i)).log (kept_by q))
        (ap (λ m. process.Node (record { group = g; number = i; node = m }))
        (sym (get-replicate (g.voters + g.observers) i (wake new_kept) n is)) ∙ same_Some _ p e)
        (keeps_nothing (head_of g (NodeOf i)))
new_stands g (AgentOf a) = record {
  there = λ p is. absurd (none-some p is);
  keeps = λ p is. subst (λ q. KeepsBy (head_of g (AgentOf a)) ((begun_machines g).machine (AgentOf a)).log (kept_by q)) (same_Some _ p is)
      (keeps_nothing (head_of g (AgentOf a)));
}

pub begun_stands : (g : Group) → Stands g (begun_machines g) []
begun_stands g = record {
  history = tt;
  stand = record { size = length-replicate (g.voters + g.observers) (wake new_kept); each = new_stands g; sent = refl };
}

-- ---- what is sent in a history may be written

pub sent_written : (g : Group) (acts : List Act) (w : Who) → IsHistory g (begun g) acts → IsLogHead (head_of g w) → (p : Packet)
    → Contains (after g (begun g) acts).sent p → HasPacketText g.name p
sent_written g acts w history head p has =
    let by = is_done_by_world g acts history in
    let nodes = head.nodes in
    let few : g.voters ≤ 99 = omega (arith, nodes) in
    All-contains (HasPacketText g.name) (play (opened g by.room) by.events).1.packets p
    (run_written by.room g.voters g.observers g.agents g.sheet g.issuer by.events g.name head.group few head.agents.0 head.agents.1)
    ((by.left.sent p).0 has)

-- of an act that may be done next
pub answer_written : (g : Group) (acts : List Act) (a : Act) (w : Who) → IsHistory g (begun g) acts → MayAct g (after g (begun g) acts) a
    → IsLogHead (head_of g w)
    → (sends : Option Packet) → (acted g (after g (begun g) acts) a).after.sent ≡ sent_with sends (after g (begun g) acts).sent
    → MayBeSent g.name sends
answer_written g acts a w history may head None sent = tt
answer_written g acts a w history may head (Some p) sent =
    sent_written g (acts ++ a ∷ []) w (history_more g (begun g) acts a history may) head p
    (subst (λ ps. Contains ps p) (sym (ap (λ (s : Processes). s.sent) (after_one g (begun g) acts a) ∙ sent))
    (Contains-push (after g (begun g) acts).sent p))

-- ---- one act more

pub same_who : (v w : Who) → is_who v w ≡ true → v ≡ w
same_who (NodeOf i) (NodeOf j) is = ap NodeOf (eqb-true i j is)
same_who (NodeOf i) (AgentOf b) is = absurd (cc)
same_who (AgentOf a) (NodeOf j) is = absurd (cc)
same_who (AgentOf a) (AgentOf b) is = ap AgentOf (eqb-true a b is)

-- that process becomes another, and all others stay
pub record Moves (g : Group) (s s' : Processes) (w : Who) (next : Process) : Type 0 where
  pub there : process_there g s' w ≡ Some next
  pub others : (v : Who) → is_who v w ≡ false → process_there g s' v ≡ process_there g s v

module _ (g : Group) (s s' : Processes) (w : Who) (next : Process) (log : List ℕ) (machine : Who → Machine)
    (moves : Moves g s s' w next) (head : IsLogHead (head_of g w)) (keeps : KeepsBy (head_of g w) log (kept_by next))
    (each : (v : Who) → OneStands g s v (machine v)) where
  abbrev new : Machine
  new = record { runs = Some next; log = log }

  one_stands : OneStands g s' w new
  one_stands = record {
    there = λ p is. (moves.there ∙ is, head);
    keeps = λ p is. subst (λ q. KeepsBy (head_of g w) log (kept_by q)) (same_Some next p (sym moves.there ∙ is)) keeps;
  }

  pub each_stands : (v : Who) → OneStands g s' v (with_machine w new machine v)
  each_stands v = by_test (is_who v w) refl
    where
      by_test : (b : Bool) → is_who v w ≡ b → OneStands g s' v (if b then record { runs = Some next; log = log } else machine v)
      by_test true e = subst (λ u. OneStands g s' u new) (sym (same_who v w e)) one_stands
      by_test false e = record {
        there = λ p is. let old = (each v).there p is in (moves.others v e ∙ old.0, old.1);
        keeps = λ p is. (each v).keeps p (sym (moves.others v e) ∙ is);
      }

-- where nothing moves
pub stays : (g : Group) (s : Processes) (w : Who) (p : Process) → process_there g s w ≡ Some p → Moves g s s w p
stays g s w p is = record { there = is; others = λ v e. refl }

map_sent : (name : List ℕ) (sends : Option Packet) (sent : List Packet)
    → map (packet_text name) (sent_with sends sent) ≡ map (packet_text name) sent ++ texts_sent name sends
map_sent name None sent = sym (append-nil _)
map_sent name (Some p) [] = refl
map_sent name (Some p) (q ∷ sent) = ap (λ ts. packet_text name q ∷ ts) (map_sent name (Some p) sent)

module _ (g : Group) (m : Machines) (acts : List Act) (stands : Stands g m acts) (w : Who) (next : Process) (log : List ℕ)
    (head : IsLogHead (head_of g w)) (keeps : KeepsBy (head_of g w) log (kept_by next)) where
  abbrev s : Processes
  s = after g (begun g) acts

  -- an act of that process
  pub stands_with : (a : Act) (sends : Option Packet) → MayAct g s a → Moves g s (acted g s a).after w next
      → length (acted g s a).after.nodes ≡ length s.nodes
      → (acted g s a).after.sent ≡ sent_with sends s.sent
      → Stands g (record {
        machine = with_machine w (record { runs = Some next; log = log }) m.machine;
        sent = m.sent ++ texts_sent g.name sends;
      }) (acts ++ a ∷ [])
  stands_with a sends may moves size sent = record {
    history = history_more g (begun g) acts a stands.history may;
    stand = subst (AllStand g _) (sym (after_one g (begun g) acts a)) (record {
      size = size ∙ stands.stand.size;
      each = each_stands g s (acted g s a).after w next log m.machine moves head keeps stands.stand.each;
      sent = ap (λ ts. ts ++ texts_sent g.name sends) stands.stand.sent ∙ sym (map_sent g.name sends s.sent)
          ∙ ap (map (packet_text g.name)) (sym sent);
    });
  }

  -- no act
  pub stands_still : process_there g s w ≡ Some next → (sent : List (List ℕ)) → sent ≡ m.sent
      → Stands g (record { machine = with_machine w (record { runs = Some next; log = log }) m.machine; sent = sent }) acts
  stands_still is sent same = record {
    history = stands.history;
    stand = record {
      size = stands.stand.size;
      each = each_stands g s s w next log m.machine (stays g s w next is) head keeps stands.stand.each;
      sent = same ∙ stands.stand.sent;
    };
  }

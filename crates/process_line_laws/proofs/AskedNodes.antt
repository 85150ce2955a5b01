-- A node that is asked in lines does an act of the history, or none.
use Rattle.std.proofs.Common.{◌≡◌, ℕ, Bool, true, false, List, [], ◌∷◌, ◌++◌, length, map, Option, Some, None, codes, refl, sym, ap, ap₂, subst, ◌∙◌, inl, inr}
use Rattle.std.specs.Prelude.{if◌then◌else◌, slice_get}
use Rattle.std.specs.List.{Contains}
use Rattle.std.specs.Option.{option_map}
use Rattle.std.proofs.lemmas.List.Elements.{All-contains, All-contains_itself, All-map, All-weaker}
use Rattle.std.proofs.lemmas.Option.{same_Some, slice_get_within}
use Rattle.metering_model.specs.KeptText.{kept_text}
use Rattle.metering_model.specs.World.{Node, Packet}
use Rattle.group_laws.proofs.Steps.{length-slice_set}
use Rattle.process_laws.specs.LocalSteps as model
use Rattle.process_laws.specs.LocalSteps.{Group, NodeCommand, TakePacket, BeginBallot, ExportPeriod, TellKept, SendBatch, NodeDone, KeptIs, node_does, saying}
use Rattle.process_laws.specs.Histories as laws
use Rattle.process_laws.specs.Histories.{Processes, Act, Acted, NodeDoes, acted, after, begun, with_node_done}
use Rattle.process_laws.proofs.NodeSteps.{get_set}
use Rattle.packet_text.specs.PacketText.{GroupPacket, packet_in, packet_text}
use Rattle.packet_text.proofs.PacketLaws.{packet_written}
use Rattle.input_sections.specs.Sections.{number_behind}
use Rattle.log_text.specs.LogText.{AgentOf, IsLogHead, NodeOf, Who}
use Rattle.group_process.specs.Selves.{NodeSelf, kept_of_node}
use Rattle.process_text.specs.declared.processes.Process.{Process}
use Rattle.process_text.specs.declared.processes.Process.TheVariants as process
use Rattle.process_text.specs.Answers.{Answers, AnswersNode, TellsNode, process_refusal_text}
use Rattle.process_text.specs.Requests.{AsksNode, NoNodeCommand, NoPacket, NodeRequest, export_request, give_request, line_request, most_packet_lines, node_request, packet_request, period_behind, place_behind}
use Rattle.process_player.specs.Runs.{Asked}
use Rattle.process_line_laws.specs.Told.{texts_sent}
use Rattle.process_line_laws.specs.Hosts.{Asks, Machines, Shortens, WasSent, head_of, is_who, with_machine}
use Rattle.process_line_laws.specs.Comes.{kept_by, process_there}
use Rattle.process_line_laws.proofs.Answered.{ComesOf, HasAnswered, asked_comes, nothing_comes, shortened_comes}
use Rattle.process_line_laws.proofs.Effects.{node_acted, node_stays}
use Rattle.process_line_laws.proofs.Logs.{KeepsBy, keeps_more}
use Rattle.process_line_laws.proofs.ReadAnswers.{node_meant}
use Rattle.process_line_laws.proofs.Stands.{Moves, Stands, answer_written, sent_written, stands_with}

-- ---- which packet is handed over

give_is_no_packet : (o : Option (ℕ × ℕ)) (name : List ℕ) (p : Packet) → give_request o ≡ AsksNode (TakePacket name p) → ⊥
give_is_no_packet (Some place) name p is = cc
give_is_no_packet None name p is = cc

export_is_no_packet : (give : Option (ℕ × ℕ)) (o : Option ℕ) (name : List ℕ) (p : Packet)
    → export_request (give_request give) o ≡ AsksNode (TakePacket name p) → ⊥
export_is_no_packet give (Some period) name p is = cc
export_is_no_packet give None name p is = give_is_no_packet give name p is

line_is_no_packet : (start keeping : Bool) (give : Option (ℕ × ℕ)) (o : Option ℕ) (name : List ℕ) (p : Packet)
    → (if start then AsksNode BeginBallot else (if keeping then AsksNode TellKept else export_request (give_request give) o)) ≡ AsksNode
    (TakePacket name p) → ⊥
line_is_no_packet true keeping give o name p is = cc
line_is_no_packet false true give o name p is = cc
line_is_no_packet false false give o name p is = export_is_no_packet give o name p is

packet_asked : (o : Option GroupPacket) (name : List ℕ) (p : Packet) → packet_request o ≡ AsksNode (TakePacket name p)
    → o ≡ Some (record { group = name; packet = p })
packet_asked (Some r) name p is =
    let group : r.group ≡ name = cc in
    let packet : r.packet ≡ p = cc in
    ap₂ (λ (t : List ℕ) (q : Packet). let x : GroupPacket = record { group = t; packet = q } in Some x) group packet
packet_asked None name p is = absurd (cc)

-- the text below is the packet's
packet_below : (line below name : List ℕ) (p : Packet) → node_request line below ≡ AsksNode (TakePacket name p)
    → packet_in below ≡ Some (record { group = name; packet = p })
packet_below line below name p is = by_number (number_behind (codes "packet ") most_packet_lines line) is
  where
    by_number : (o : Option ℕ)
        → elim o as (λ _. NodeRequest) [ Some n ↦ packet_request (packet_in below) | None ↦ line_request line ] ≡ AsksNode
        (TakePacket name p)
        → packet_in below ≡ Some (record { group = name; packet = p })
    by_number (Some n) e = packet_asked (packet_in below) name p e
    by_number None e = absurd (line_is_no_packet _ _ (place_behind line) (period_behind line) name p e)

text_sent : (name : List ℕ) (sent : List Packet) (text : List ℕ) → Contains (map (packet_text name) sent) text
    → (q : Packet) × Contains sent q × (packet_text name q ≡ text)
text_sent name sent text has =
    let IsOneOf : List ℕ → Type 0 = λ t. (q : Packet) × Contains sent q × (packet_text name q ≡ t) in
    All-contains IsOneOf (map (packet_text name) sent) text
    (All-map IsOneOf (packet_text name) sent
    (All-weaker (Contains sent) (λ q. IsOneOf (packet_text name q)) (λ q there. (q, there, refl)) sent (All-contains_itself sent))) has

-- ---- a node among the processes

module _ (g : Group) (m : Machines) (acts : List Act) (stands : Stands g m acts) (i : ℕ) (n : Node)
    (found : slice_get (after g (begun g) acts).nodes i ≡ Some n) (head : IsLogHead (head_of g (NodeOf i))) where
  abbrev s : Processes
  s = after g (begun g) acts

  abbrev self : NodeSelf
  self = record { group = g; number = i; node = n }

  abbrev as_process : Node → Process
  as_process x = process.Node (record { group = g; number = i; node = x })

  pub node_there : process_there g s (NodeOf i) ≡ Some (as_process n)
  node_there = ap (option_map as_process) found

  pub node_keeps : KeepsBy (head_of g (NodeOf i)) (m.machine (NodeOf i)).log (kept_of_node self)
  node_keeps = (stands.stand.each (NodeOf i)).keeps (as_process n) node_there

  node_moved : (d : NodeDone) → Moves g s (with_node_done i d s).after (NodeOf i) (as_process d.node)
  node_moved d = record { there = ap (option_map as_process) (get_set s.nodes i d.node n found); others = others }
    where
      others : (v : Who) → is_who v (NodeOf i) ≡ false → process_there g (with_node_done i d s).after v ≡ process_there g s v
      others (NodeOf j) e = ap (option_map (λ x. process.Node (record { group = g; number = j; node = x }))) (node_stays s i j d e)
      others (AgentOf a) e = refl

  -- the machines with an act of the node, whatever its log has become
  pub node_stands : (a : Act) (d : NodeDone) (log : List ℕ) → acted g s a ≡ with_node_done i d s → laws.MayAct g s a
      → KeepsBy (head_of g (NodeOf i)) log (kept_by (as_process d.node))
      → Stands g (record {
        machine = with_machine (NodeOf i) (record { runs = Some (as_process d.node); log = log }) m.machine;
        sent = m.sent ++ texts_sent g.name d.answer.sends;
      }) (acts ++ a ∷ [])
  node_stands a d log is may keeps =
      stands_with g m acts stands (NodeOf i) (as_process d.node) log head keeps a d.answer.sends may
      (subst (λ (x : Acted). Moves g s x.after (NodeOf i) (as_process d.node)) (sym is) (node_moved d))
      (ap (λ (x : Acted). length x.after.nodes) is ∙ length-slice_set s.nodes i d.node)
      (ap (λ (x : Acted). x.after.sent) is)

  -- a packet that is handed over as text was sent
  was_sent : (c : NodeCommand) (asked : Asked) → node_request asked.first asked.below ≡ AsksNode c → WasSent g m.sent asked.below
      → laws.WasSent g s c
  was_sent (TakePacket name p) asked request handed = λ of.
      let read = packet_below asked.first asked.below name p request in
      let one = text_sent g.name s.sent asked.below
      (subst (λ ts. Contains ts asked.below) stands.stand.sent (handed (record { group = name; packet = p }) read of)) in
      let again = sym (ap packet_in one.2) ∙ packet_written g.name one.0 (sent_written g acts (NodeOf i) stands.history head one.0 one.1) in
      let same = same_Some _ _ (sym again ∙ read) in
      subst (Contains s.sent) (ap (λ (r : GroupPacket). r.packet) same) one.1
  was_sent BeginBallot asked request handed = tt
  was_sent (ExportPeriod period) asked request handed = tt
  was_sent TellKept asked request handed = tt
  was_sent (SendBatch agent seq) asked request handed = tt

  module _ (c : NodeCommand) (new : NodeSelf) (said : List ℕ) (tells : TellsNode c self new said) (sent : laws.WasSent g s c) where
    abbrev d : NodeDone
    d = record { answer = tells.answer; node = new.node }

    new_is : new ≡ record { group = g; number = i; node = new.node }
    new_is = ap₂ (λ (a : Group) (b : ℕ). let x : NodeSelf = record { group = a; number = b; node = new.node } in
        x) tells.does.group tells.does.number

    whole : acted g s (NodeDoes i c) ≡ with_node_done i d s
    whole = node_acted s i (λ x. node_does g i x c) n d found tells.does.does

    may : laws.MayAct g s (NodeDoes i c)
    may = (slice_get_within s.nodes i n found, sent)

    pub node_answered : HasAnswered g m acts (NodeOf i) (process.Node new) said (NodeDoes i c)
    node_answered = record {
      answer = tells.answer;
      added = tells.added;
      read = node_meant c self new said tells
          (answer_written g acts (NodeDoes i c) (NodeOf i) stands.history may head tells.answer.sends
          (ap (λ (x : Acted). x.after.sent) whole));
      is = ap (λ (x : Acted). x.answer) whole;
      keeps = keeps_more node_keeps (kept_of_node new) tells.added tells.adds;
      stands = λ log keeps.
          subst (λ x. Stands g
          (record {
            machine = with_machine (NodeOf i) (record { runs = Some (process.Node x); log = log }) m.machine;
            sent = m.sent ++ texts_sent g.name tells.answer.sends;
          }) (acts ++ NodeDoes i c ∷ []))
          (sym new_is)
          (node_stands (NodeDoes i c) d log whole may (subst (λ x. KeepsBy (head_of g (NodeOf i)) log (kept_of_node x)) new_is keeps));
    }

  -- ---- it is asked

  pub node_asked : (asked : Asked) (next : Process) (said : List ℕ) → Answers (process.Node self) asked.first asked.below next said
      → WasSent g m.sent asked.below
      → ComesOf g m acts (Asks (NodeOf i) asked next said) said
  node_asked asked (process.Agent x) said answers handed = absurd answers
  node_asked asked (process.Node new) said answers handed = by_request (node_request asked.first asked.below) refl answers
    where
      by_request : (r : NodeRequest) → node_request asked.first asked.below ≡ r → AnswersNode r self new said
          → ComesOf g m acts (Asks (NodeOf i) asked (process.Node new) said) said
      by_request (AsksNode c) is tells =
          inl (asked_comes g m acts (NodeOf i) (process.Node new) said (NodeDoes i c)
          (node_answered c new said tells (was_sent c asked is handed)) asked (c, is, refl))
      by_request NoPacket is none =
          inr (nothing_comes g m acts stands (NodeOf i) head (as_process n) node_there asked (process.Node new) said
          (process_refusal_text model.Foreign) (ap process.Node none.0) none.1 (inl (is, none.1)))
      by_request NoNodeCommand is none =
          inr (nothing_comes g m acts stands (NodeOf i) head (as_process n) node_there asked (process.Node new) said (codes "L6")
          (ap process.Node none.0) none.1 (inr (is, none.1)))

  pub node_shortens : (next : Process) (said : List ℕ) → Answers (process.Node self) (codes "keep") [] next said
      → ComesOf g m acts (Shortens (NodeOf i) next said) said
  unfolding node_answered
  node_shortens (process.Agent x) said answers = absurd answers
  node_shortens (process.Node new) said answers =
      let told : record { answer = saying (KeptIs (kept_text (kept_of_node self))); node = n }
      ≡ record { answer = answers.answer; node = new.node } = answers.does.does in
      let same : kept_of_node self ≡ kept_of_node new =
      ap₂ (λ (a : Group) (x : Node). model.kept_among a x.kept) (sym answers.does.group) (ap (λ (e : NodeDone). e.node) told) in
      inl (shortened_comes g m acts (NodeOf i) (process.Node new) said (NodeDoes i TellKept)
      (node_answered TellKept new said answers tt) head refl
      (ap (λ (e : NodeDone). e.answer) (sym told) ∙ ap (λ k. saying (KeptIs (kept_text k))) same))

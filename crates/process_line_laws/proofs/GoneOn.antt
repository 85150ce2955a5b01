-- A process that is begun with the log that is stored goes on with what is kept.
use Rattle.std.proofs.Common.{◌≡◌, ℕ, ◌+◌, ◌≤◌, true, List, [], ◌∷◌, ◌++◌, length, Some, None, Result, Ok, Err, refl, sym, ap, ap₂, subst, ◌∙◌, arith, append-nil, inl}
use Rattle.std.specs.Prelude.{slice_get}
use Rattle.std.specs.List.{list_all}
use Rattle.std.proofs.lemmas.Bool.{and_from, and_parts, ltb-true}
use Rattle.metering_model.specs.Batch.{lacks}
use Rattle.metering_model.specs.BatchReading.{Lines, fields_in, is_same, lines_in}
use Rattle.metering_model.specs.KeptText.{KeptAmong}
use Rattle.metering_model.specs.Sheet.{Sheet, Issuer}
use Rattle.metering_model.specs.Transcript.{line}
use Rattle.metering_model.specs.World.{Node, wake}
use Rattle.metering_model.proofs.Splitting.{lines_of_text}
use Rattle.metering_model.proofs.StepLaws.{ok_same, step_ok, test_step}
use Rattle.group_laws.proofs.WithoutObservers.{some_at}
use Rattle.byte_text.proofs.PastLines.{lines_lack}
use Rattle.process_laws.specs.LocalSteps.{AgentDone, Answer, Group, NodeDone, agent_goes_on, node_goes_on}
use Rattle.process_laws.specs.Histories.{Act, Acted, AgentGoesOn, NodeGoesOn, Processes, acted, after, begun, with_node_done}
use Rattle.input_sections.specs.declared.faults.ScheduleFault.TheVariants.{Refused}
use Rattle.input_sections.specs.declared.faults.ScheduleFault.{ScheduleFault}
use Rattle.input_sections.specs.declared.faults.ScheduleCode.{ScheduleCode}
use Rattle.input_sections.specs.declared.faults.ScheduleCode.TheVariants as code
use Rattle.input_sections.specs.Sections.{Unread, first_line, first_of, issuer_section, left, lines_left, sheet_section, told, whole_of}
use Rattle.log_text.specs.LogText.{AgentOf, IsLogHead, LogHead, LogTextFault, NodeOf, ReadLog, Who, at_log_line, head_in, head_text, log_below, log_in, log_of_lines}
use Rattle.log_text.proofs.HeadLaws.{head_read}
use Rattle.log_text.proofs.LogLaws.{at_log_line_ok, log_read, short_read}
use Rattle.process_text.specs.declared.processes.Process.{Process}
use Rattle.process_text.specs.declared.processes.Process.TheVariants as process
use Rattle.process_text.specs.Answers.{begun_text, words_text}
use Rattle.process_player.specs.declared.heads.ProcessKind.{ProcessKind}
use Rattle.process_player.specs.Starts as starts
use Rattle.process_player.specs.Starts.{HasLog, HasNone, IsStored, Preamble, group_of, head_of, is_kind_of, kind_word, own_of, preamble_in}
use Rattle.process_player.proofs.PreambleLaws.{log_limits, own_read as read_of_own, preamble_log}
use Rattle.group_process.specs.Selves.{AgentSelf, NodeSelf}
use Rattle.process_line_laws.specs.Told.{just, texts_sent}
use Rattle.process_line_laws.specs.Hosts as hosts
use Rattle.process_line_laws.specs.Hosts.{GoesOn, IsThatLog, Machines, MayGoOn, done, kind_of, with_machine}
use Rattle.process_line_laws.specs.Comes.{SaysJust}
use Rattle.process_line_laws.proofs.Answered.{ComesOf, OneAct}
use Rattle.process_line_laws.proofs.AskedAgents.{agent_among, agent_keeps, agent_stands}
use Rattle.process_line_laws.proofs.AskedNodes.{node_keeps, node_stands}
use Rattle.process_line_laws.proofs.Effects.{node_acted}
use Rattle.process_line_laws.proofs.Logs.{read_is_kept}
use Rattle.process_line_laws.proofs.ReadAnswers.{begun_read, so_told}
use Rattle.process_line_laws.proofs.Stands.{Stands}

-- ---- the head line of an input

-- A log that is one line is its head line.
one_line : (l : List ℕ) (own : ReadLog) → lacks 10 l ≡ true → log_in (line l) ≡ Ok own → line l ≡ head_text own.head
one_line l own whole read =
    let is = log_read (line l) own read in
    let short = subst (λ t. length t ≤ 4_294_967_296) (sym is.2) is.3.short in
    let lines : lines_in (line l) ≡ record { lines = l ∷ []; rest = [] } =
    ap lines_in (sym (append-nil (line l))) ∙ lines_of_text (l ∷ []) (and_from _ _ whole refl) in
    let by_lines = sym (short_read (line l) short ∙ ap (λ (x : Lines). log_of_lines x.lines x.rest) lines) ∙ read in
    let h = step_ok (at_log_line 1 (head_in (fields_in l))) (λ h. log_below h [] []) own by_lines in
    let head = head_read l h.0 (at_log_line_ok 1 (head_in (fields_in l)) h.0 h.1) in
    let same = ok_same {E = LogTextFault} _ own h.2 in
    ap line head.0 ∙ ap (λ (r : ReadLog). head_text r.head) same

told_ok : {A E : Type 0} (fault : ScheduleFault) (r : Result A E) (x : A) → told fault r ≡ Ok x → r ≡ Ok x
told_ok fault (Ok y) x h = ap Ok (ok_same {E = ScheduleFault} y x h)
told_ok fault (Err e) x h = absurd (cc)

first_lacks : (c : ScheduleCode) (u : Unread) (r : List ℕ × Unread) → first_line c u ≡ Ok r → lacks 10 r.0 ≡ true
first_lacks c u r h = by_lines (lines_left u) (lines_lack (left u)) h
  where
    by_lines : (ls : List (List ℕ)) → list_all (lacks 10) ls ≡ true → first_of c u ls ≡ Ok r → lacks 10 r.0 ≡ true
    by_lines [] all e = absurd (cc)
    by_lines (l ∷ ls) all e =
        subst (λ (x : List ℕ × Unread). lacks 10 x.0 ≡ true) (ok_same {E = ScheduleFault} _ r e)
        (and_parts (lacks 10 l) (list_all (lacks 10) ls) all).0

-- the head line by itself is read as what a new log is
abbrev IsOwn : ReadLog → Type 0
IsOwn own = log_in (head_text own.head) ≡ Ok own

second_line : (k : ProcessKind) (u : Unread) (r : ReadLog × Unread) → own_of k u ≡ Ok r → IsOwn r.0
second_line k u r h =
    let l = step_ok (first_line code.Nodes u) _ r h in
    let own = step_ok (told (Refused code.Nodes 2) (log_in (line l.0.0))) _ r l.2 in
    let kind = test_step (is_kind_of k own.0.head.who) _ _ r own.2 in
    let read = told_ok (Refused code.Nodes 2) (log_in (line l.0.0)) own.0 own.1 in
    let alone : IsOwn own.0 = ap log_in (sym (one_line l.0.0 own.0 (first_lacks code.Nodes u l.0 l.1) read)) ∙ read in
    subst IsOwn (ap (λ (q : ReadLog × Unread). q.0) (ok_same {E = ScheduleFault} _ r kind.1)) alone

both_lines : (k : ProcessKind) (u : Unread) (r : ReadLog × Unread) → head_of k u ≡ Ok r → IsOwn r.0
both_lines k u r h =
    let l = step_ok (first_line code.Head u) _ r h in
    let test = test_step (is_same l.0.0 (kind_word k)) _ _ r l.2 in
    second_line k l.0.1 r test.1

own_read : (k : ProcessKind) (text : List ℕ) (p : Preamble) → preamble_in k text ≡ Ok p → IsOwn p.own
unfolding preamble_in
own_read k text p h =
    let whole = step_ok (whole_of text) _ p h in
    let head = step_ok (head_of k whole.0) _ p whole.2 in
    let sheet = step_ok (sheet_section head.0.1) _ p head.2 in
    let issuer = step_ok (issuer_section sheet.0.1) _ p sheet.2 in
    subst IsOwn (ap (λ (q : Preamble). q.own) (ok_same {E = ScheduleFault} _ p issuer.2)) (both_lines k whole.0 head.0 head.1)

-- ---- what is stored is what is kept

stored_read : {own : ReadLog} {stored : List ℕ} {kept : KeptAmong} (log : List ℕ) (is : IsStored own stored kept) → IsThatLog log is
    → IsOwn own
    → log_in log ≡ Ok (record { head = own.head; kept = kept })
stored_read log HasNone that alone = ap log_in that ∙ alone
stored_read log (HasLog said stored kept n section counted read) that alone = ap log_in that ∙ read

abbrev group_with : LogHead → Sheet → Issuer → Group
group_with h sheet issuer =
    record { name = h.group; voters = h.voters; observers = h.observers; agents = h.agents; sheet = sheet; issuer = issuer }

module _ (g : Group) (m : Machines) (w : Who) (text : List ℕ) (first : Process) (may : MayGoOn g m w text first) where
  abbrev p : Preamble
  p = may.begins.preamble

  pub own_head : IsLogHead (hosts.head_of g w)
  own_head = subst IsLogHead may.head (log_limits p.own (read_of_own (preamble_log (kind_of w) may.begins.first p may.begins.is_read))).0

  pub stored_is_read : log_in (m.machine w).log ≡ Ok (record { head = hosts.head_of g w; kept = may.begins.kept })
  stored_is_read =
      subst (λ h. log_in (m.machine w).log ≡ Ok (record { head = h; kept = may.begins.kept })) may.head
      (stored_read (m.machine w).log may.begins.is_stored may.log (own_read (kind_of w) may.begins.first p may.begins.is_read))

  same_group : group_of p ≡ g
  same_group =
      ap (λ h. group_with h p.sheet p.issuer) may.head
      ∙ ap₂ (λ s i. group_with (hosts.head_of g w) s i) may.sheet may.issuer

  pub goes_on_so : starts.GoesOn g w may.begins.kept first
  goes_on_so =
      subst (λ x. starts.GoesOn x w may.begins.kept first) same_group
      (subst (λ (h : LogHead). starts.GoesOn (group_of p) h.who may.begins.kept first) may.head may.begins.goes_on)

-- ---- it goes on

module _ (g : Group) (m : Machines) (acts : List Act) (stands : Stands g m acts) where
  abbrev s : Processes
  s = after g (begun g) acts

  abbrev IsOne : Who → (text : List ℕ) → Process → Type 0
  IsOne w text first = OneAct g (done g m (GoesOn w text first)) acts (GoesOn w text first) (begun_text first)

  says_begun : (w : Who) (text : List ℕ) (first : Process) (x : Answer) (act : Act) → (acted g s act).answer ≡ x → x.sends ≡ None
      → words_text x.words ≡ begun_text first
      → SaysJust g.name (begun_text first) (acted g s act).answer
  says_begun w text first x act is none words =
      let read = so_told (begun_text first) (just (begun_text first)) (begun_read first) in
      record {
        words = ap (λ t. t.last) read ∙ sym words ∙ ap (λ (y : Answer). words_text y.words) (sym is);
        sends = ap (λ t. t.sent) read ∙ ap (texts_sent g.name) (sym none) ∙ ap (λ (y : Answer). texts_sent g.name y.sends) (sym is);
      }

  node_goes : (i : ℕ) (text : List ℕ) (n : Node) → slice_get s.nodes i ≡ Some n → IsLogHead (hosts.head_of g (NodeOf i))
      → IsOne (NodeOf i) text (process.Node (record { group = g; number = i; node = wake n.kept }))
  node_goes i text n found head =
      let act = NodeGoesOn i n.kept in
      let d : NodeDone = node_goes_on n.kept in
      let whole : acted g s act ≡ with_node_done i d s = node_acted s i (λ x. node_goes_on n.kept) n d found refl in
      record {
        act = act;
        is = (n.kept, refl);
        says = says_begun (NodeOf i) text (process.Node (record { group = g; number = i; node = wake n.kept })) d.answer act
            (ap (λ (x : Acted). x.answer) whole) refl refl;
        stands = subst (λ ts. Stands g
            (record {
              machine = with_machine (NodeOf i)
                  (record {
                    runs = Some (process.Node (record { group = g; number = i; node = wake n.kept }));
                    log = (m.machine (NodeOf i)).log;
                  }) m.machine;
              sent = ts;
            }) (acts ++ act ∷ [])) (append-nil m.sent)
            (node_stands g m acts stands i n found head act d (m.machine (NodeOf i)).log whole (n, found, refl)
            (node_keeps g m acts stands i n found head));
      }

  agent_goes : (a : ℕ) (text : List ℕ) → IsLogHead (hosts.head_of g (AgentOf a))
      → IsOne (AgentOf a) text (process.Agent (record { group = g; number = a; journal = s.journals a }))
  agent_goes a text head =
      let act = AgentGoesOn a (s.journals a) in
      let d : AgentDone = agent_goes_on a (s.journals a) in
      let among = agent_among g m acts stands a head in
      record {
        act = act;
        is = (s.journals a, refl);
        says = says_begun (AgentOf a) text
            (process.Agent (record { group = g; number = a; journal = s.journals a })) d.answer act refl refl refl;
        stands = subst (λ ts. Stands g
            (record {
              machine = with_machine (AgentOf a)
                  (record {
                    runs = Some (process.Agent (record { group = g; number = a; journal = s.journals a }));
                    log = (m.machine (AgentOf a)).log;
                  }) m.machine;
              sent = ts;
            }) (acts ++ act ∷ [])) (append-nil m.sent)
            (agent_stands g m acts stands a head act d (m.machine (AgentOf a)).log refl (among.0, among.1, refl)
            (agent_keeps g m acts stands a head));
      }

  by_goes : (w : Who) (text : List ℕ) (first : Process) (kept : KeptAmong) → IsLogHead (hosts.head_of g w)
      → log_in (m.machine w).log ≡ Ok (record { head = hosts.head_of g w; kept = kept })
      → starts.GoesOn g w kept first → IsOne w text first
  by_goes (NodeOf i) text (process.Agent x) kept head read goes = absurd goes
  by_goes (AgentOf a) text (process.Node x) kept head read goes = absurd goes
  by_goes (NodeOf i) text (process.Node x) kept head read goes =
      let low = ltb-true i (g.voters + g.observers) head.who in
      let size = stands.stand.size in
      let n = some_at s.nodes i (omega (arith, low, size)) in
      let same = read_is_kept (node_keeps g m acts stands i n.0 n.1 head) head read in
      let is : process.Node x ≡ process.Node (record { group = g; number = i; node = wake n.0.kept }) =
      ap process.Node (goes ∙ ap (λ (k : KeptAmong). let y : NodeSelf = record { group = g; number = i; node = wake k.kept } in y) same) in
      subst (IsOne (NodeOf i) text) (sym is) (node_goes i text n.0 n.1 head)
  by_goes (AgentOf a) text (process.Agent x) kept head read goes =
      let same = read_is_kept (agent_keeps g m acts stands a head) head read in
      let is : process.Agent x ≡ process.Agent (record { group = g; number = a; journal = s.journals a }) =
      ap process.Agent (goes.0
      ∙ ap (λ (k : KeptAmong). let y : AgentSelf = record { group = g; number = a; journal = k.kept.holding } in y) same) in
      subst (IsOne (AgentOf a) text) (sym is) (agent_goes a text head)

  pub gone_on : (w : Who) (text : List ℕ) (first : Process) → MayGoOn g m w text first
      → ComesOf g m acts (GoesOn w text first) (begun_text first)
  gone_on w text first may =
      inl (by_goes w text first may.begins.kept (own_head g m w text first may) (stored_is_read g m w text first may)
      (goes_on_so g m w text first may))

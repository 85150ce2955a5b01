-- What begins as a file of a period is the file of a snapshot that the history exports; so two of one period are one.
use Rattle.std.proofs.Common.{◌≡◌, ◌⊎◌, ℕ, ◌+◌, Bool, true, false, not, List, [], ◌∷◌, ◌++◌, drop, Option, Some, None, Result, Ok, Err, codes, decimal, refl, sym, ap, subst, ◌∙◌, arith, inl, inr, append_assoc}
use Rattle.std.specs.Prelude.{◌==◌, if◌then◌else◌, slice_get}
use Rattle.std.specs.List.{Contains}
use Rattle.std.proofs.lemmas.Bool.{and_parts}
use Rattle.std.proofs.lemmas.List.Elements.{Contains-append_cases, Contains-append_right, Contains-push_cases}
use Rattle.metering_model.specs.Batch.{Batch, lacks}
use Rattle.metering_model.specs.Holding.{Holding, held, put, up_to}
use Rattle.metering_model.specs.Dates.{IsPeriod}
use Rattle.metering_model.specs.Transcript.{file_of, line_count, with_number}
use Rattle.metering_model.specs.World.{CarriesBatch, Node, Offer, Packet, Prepare, Snapshot, current_period}
use Rattle.metering_model.specs.Deliveries.{handled}
use Rattle.metering_model.specs.Cut.{zero_cut}
use Rattle.metering_model.specs.Step.{cut_before, play, started_node}
use Rattle.metering_model.specs.declared.Refusal.TheVariants.{Missing, NoNode}
use Rattle.metering_model.specs.declared.Refusal.{Refusal}
use Rattle.metering_model.proofs.Decimals.{decimal_is_one, decimal_lacks_blank}
use Rattle.process_laws.specs.LocalSteps as model
use Rattle.process_laws.specs.LocalSteps.{Answer, Group, NodeCommand, TakePacket, BeginBallot, ExportPeriod, TellKept, SendBatch, AgentCommand}
use Rattle.process_laws.specs.LocalSteps.{JournalBatch, SendAgain, TellJournal, NodeDone, Words, HasTaken, HasBegun, HasJournaled, HasExported}
use Rattle.process_laws.specs.LocalSteps.{KeptIs, HasSent, NodeWentOn, AgentWentOn, RefusedFor, OfModel, refusing, saying}
use Rattle.process_laws.specs.Histories.{Act, Acted, AgentDoes, AgentGoesOn, NodeDoes, NodeGoesOn, Processes, IsHistory, acted, after, answers, begun, by_node, opened, with_node_done}
use Rattle.process_laws.proofs.DoneByWorld.{is_done_by_world}
use Rattle.process_laws.proofs.ExportedAnswers.{exported_among}
use Rattle.process_laws.proofs.AgreedExports.{batches_are_journaled, each_batch_once, files_are_the_same, next_begins_there}
use Rattle.log_text.specs.LogText.{AgentOf, NodeOf}
use Rattle.group_process.specs.Selves.{AgentSelf}
use Rattle.process_text.specs.declared.processes.Process.TheVariants as process
use Rattle.process_text.specs.Answers.{process_refusal_text, refused_text, words_text}
use Rattle.process_line_laws.specs.Told.{just, told_in}
use Rattle.process_line_laws.specs.Hosts.{Asks, GoesOn, HostAct, IsHostHistory, Shortens, begun_machines, said_by}
use Rattle.process_line_laws.specs.Comes.{AreMadeOf, AreTold, AsksNothing, ComeToHistory, IsFileOf, IsMadeOf, IsOfJournals, SaysJust}
use Rattle.process_line_laws.proofs.History.{come_to_history}
use Rattle.process_line_laws.proofs.ReadAnswers.{refused_read, so_told}

-- ---- the first words

first_byte : List ℕ → ℕ
first_byte [] = 0
first_byte (c ∷ cs) = c

-- no other words begin with the byte e
words_apart : (w : Words) (period : ℕ) (rest : List ℕ)
    → words_text w ≡ with_number (codes "exported period ") period ++ codes " lines " ++ rest → (s : Snapshot) × (w ≡ HasExported s)
unfolding first_byte
words_apart (HasExported s) period rest is = (s, refl)
words_apart (HasTaken learned) period rest is = let bytes : 100 ≡ 101 = ap first_byte is in absurd (omega (arith, bytes))
words_apart (HasBegun ballot) period rest is = let bytes : 115 ≡ 101 = ap first_byte is in absurd (omega (arith, bytes))
words_apart (HasJournaled seq) period rest is = let bytes : 106 ≡ 101 = ap first_byte is in absurd (omega (arith, bytes))
words_apart (KeptIs text) period rest is = let bytes : 107 ≡ 101 = ap first_byte is in absurd (omega (arith, bytes))
words_apart HasSent period rest is = let bytes : 115 ≡ 101 = ap first_byte is in absurd (omega (arith, bytes))
words_apart (NodeWentOn p round) period rest is = let bytes : 98 ≡ 101 = ap first_byte is in absurd (omega (arith, bytes))
words_apart (AgentWentOn seq) period rest is = let bytes : 98 ≡ 101 = ap first_byte is in absurd (omega (arith, bytes))
words_apart (RefusedFor why) period rest is = let bytes : 114 ≡ 101 = ap first_byte is in absurd (omega (arith, bytes))

refused_apart : (why : List ℕ) (period : ℕ) (rest : List ℕ)
    → refused_text why ≡ with_number (codes "exported period ") period ++ codes " lines " ++ rest → ⊥
unfolding first_byte
refused_apart why period rest is = let bytes : 114 ≡ 101 = ap first_byte is in omega (arith, bytes)

-- what stands before the first space
before_space : List ℕ → List ℕ
before_space [] = []
before_space (c ∷ cs) = if c == 32 then [] else c ∷ before_space cs

up_to_space : (t rest : List ℕ) → lacks 32 t ≡ true → before_space (t ++ 32 ∷ rest) ≡ t
unfolding before_space
up_to_space [] rest h = refl
up_to_space (c ∷ t) rest h =
    let both = and_parts (not (c == 32)) (lacks 32 t) h in
    by_test (c == 32) both.0 (up_to_space t rest both.1)
  where
    by_test : (b : Bool) → not b ≡ true → before_space (t ++ 32 ∷ rest) ≡ t → (if b then [] else c ∷ before_space (t ++ 32 ∷ rest)) ≡ c ∷ t
    by_test false other same = ap (λ u. c ∷ u) same
    by_test true other same = absurd (cc)

-- a file's first line tells the period of its snapshot
period_told : (s : Snapshot) (period : ℕ) (rest : List ℕ) → IsPeriod period
    → words_text (HasExported s) ≡ with_number (codes "exported period ") period ++ codes " lines " ++ rest
    → s.period ≡ period
period_told s period rest low is =
    let mine = decimal s.period in
    let yours = decimal period in
    let lines = with_number (codes " lines ") (line_count (file_of s)) in
    let behind : (mine ++ lines ++ 10 ∷ []) ++ file_of s ≡ (yours ++ codes " lines ") ++ rest = ap (drop 16) is in
    let one : (mine ++ lines ++ 10 ∷ []) ++ file_of s ≡ mine ++ ((lines ++ 10 ∷ []) ++ file_of s) =
    ap (λ t. t ++ file_of s) (append_assoc mine lines (10 ∷ [])) ∙ append_assoc mine (lines ++ 10 ∷ []) (file_of s) in
    decimal_is_one s.period period (omega (arith, low))
    (sym (up_to_space mine _ (decimal_lacks_blank s.period))
    ∙ ap before_space (sym one ∙ behind ∙ append_assoc yours (codes " lines ") rest) ∙ up_to_space yours _ (decimal_lacks_blank period))

-- ---- an answer that exports does no more

module _ (s : Snapshot) where
  abbrev IsAlone : Answer → Type 0
  IsAlone x = x.words ≡ HasExported s → x ≡ saying (HasExported s)

  held_alone : (h : Holding) (agent seq : ℕ) → IsAlone (model.sending_held h agent seq)
  held_alone h agent seq = by_held (held h agent seq)
    where
      by_held : (o : Option Batch) → IsAlone (elim o as (λ _. Answer) [
        | Some b ↦ record { words = HasSent; sends = Some (CarriesBatch b) }
        | None ↦ refusing (OfModel (Missing agent seq))
      ])
      by_held (Some b) is = absurd (cc)
      by_held None is = absurd (cc)

  taking_alone : (g : Group) (i : ℕ) (n : Node) (name : List ℕ) (p : Packet) → IsAlone (model.taking g i n name p).answer
  taking_alone g i n name p = by_test (model.is_of_group g name p)
    where
      by_test : (b : Bool)
          → IsAlone (let d : NodeDone = if b then model.after_handling (handled (model.bare_world g) i n p) else model.unmoved
          (refusing model.Foreign) n in d).answer
      by_test true is = absurd (cc)
      by_test false is = absurd (cc)

  beginning_alone : (g : Group) (i : ℕ) (n : Node) → IsAlone (model.beginning g i n).answer
  beginning_alone g i n = by_ballot (model.next_ballot g i n)
    where
      by_ballot : (r : Result ℕ Refusal) → IsAlone (elim r as (λ _. NodeDone) [
        | Ok ballot ↦ record {
          answer = record { words = HasBegun ballot; sends = Some (Prepare (current_period n) ballot) };
          node = started_node g.voters ballot n;
        }
        | Err why ↦ model.unmoved (refusing (OfModel why)) n
      ]).answer
      by_ballot (Ok ballot) is = absurd (cc)
      by_ballot (Err why) is = absurd (cc)

  exporting_alone : (g : Group) (n : Node) (p : ℕ) → IsAlone (model.exporting g n p)
  exporting_alone g n p = by_snapshot (model.snapshot_by g n p)
    where
      by_fit : (t : Snapshot) (b : Bool) → IsAlone (if b then saying (HasExported t) else refusing model.Unfit)
      by_fit t true is = ap saying is
      by_fit t false is = absurd (cc)

      by_snapshot : (r : Result Snapshot Refusal) → IsAlone (elim r as (λ _. Answer) [
        | Ok t ↦ if model.is_fit g n t then saying (HasExported t) else refusing model.Unfit
        | Err why ↦ refusing (OfModel why)
      ])
      by_snapshot (Ok t) is = by_fit t (model.is_fit g n t) is
      by_snapshot (Err why) is = absurd (cc)

  node_alone : (g : Group) (i : ℕ) (n : Node) (c : NodeCommand) → IsAlone (model.node_does g i n c).answer
  node_alone g i n (TakePacket name p) = taking_alone g i n name p
  node_alone g i n BeginBallot = beginning_alone g i n
  node_alone g i n (ExportPeriod p) = exporting_alone g n p
  node_alone g i n TellKept = λ is. absurd (cc (is))
  node_alone g i n (SendBatch agent seq) = held_alone n.kept.holding agent seq

  journaling_alone : (g : Group) (a : ℕ) (j : Holding) (offer : Offer) → IsAlone (model.journaling g a j offer).answer
  journaling_alone g a j offer = by_batch (model.batch_to_journal g a j offer)
    where
      by_batch : (r : Result Batch Refusal) → IsAlone (elim r as (λ _. model.AgentDone) [
        | Ok b ↦ record { answer = record { words = HasJournaled b.seq; sends = Some (CarriesBatch b) }; journal = put j b }
        | Err why ↦ model.unmoved_journal (refusing (OfModel why)) j
      ]).answer
      by_batch (Ok b) is = absurd (cc)
      by_batch (Err why) is = absurd (cc)

  agent_alone : (g : Group) (a : ℕ) (j : Holding) (c : AgentCommand) → IsAlone (model.agent_does g a j c).answer
  agent_alone g a j (JournalBatch offer) = journaling_alone g a j offer
  agent_alone g a j (SendAgain seq) = held_alone j a seq
  agent_alone g a j TellJournal = λ is. absurd (cc (is))

  by_node_alone : (i : ℕ) (v : Processes) (does : Node → NodeDone) → ((n : Node) → IsAlone (does n).answer)
      → IsAlone (by_node i v does).answer
  by_node_alone i v does each = by_found (slice_get v.nodes i)
    where
      by_found : (o : Option Node) → IsAlone (elim o as (λ _. Acted) [
        | Some n ↦ with_node_done i (does n) v
        | None ↦ record { answer = refusing (OfModel NoNode); after = v }
      ]).answer
      by_found (Some n) is = each n is
      by_found None is = absurd (cc)

  act_alone : (g : Group) (v : Processes) (a : Act) → IsAlone (acted g v a).answer
  act_alone g v (NodeDoes i c) = by_node_alone i v (λ n. model.node_does g i n c) (λ n. node_alone g i n c)
  act_alone g v (NodeGoesOn i stored) = by_node_alone i v (λ n. model.node_goes_on stored) (λ n is. absurd (cc (is)))
  act_alone g v (AgentDoes a c) = agent_alone g a (v.journals a) c
  act_alone g v (AgentGoesOn a stored) = λ is. absurd (cc (is))

-- ---- a file among what is said

first_or_later : {A : Type 0} (x y : A) (xs : List A) → Contains (x ∷ xs) y → (x ≡ y) ⊎ Contains xs y
first_or_later x y xs has = elim (Contains-append_cases (x ∷ []) xs y has) [
  | inl first ↦ elim (Contains-push_cases [] x y first) [ inl none ↦ absurd (omega (arith, none.1)) | inr is ↦ inl is ]
  | inr later ↦ inr later
]

-- who asks for nothing is told no file
nothing_is_no_file : (h : HostAct) (period : ℕ) → AsksNothing h → IsFileOf period (told_in (said_by h)).last → ⊥
nothing_is_no_file h period nothing file = by_act h nothing file
  where
    refused : (said why : List ℕ) → said ≡ refused_text why → IsFileOf period (told_in said).last → ⊥
    refused said why is file =
        let read = ap told_in is ∙ so_told (refused_text why) (just (refused_text why)) (refused_read why) in
        refused_apart why period file.rest (sym (ap (λ t. t.last) read) ∙ file.words)

    by_act : (h : HostAct) → AsksNothing h → IsFileOf period (told_in (said_by h)).last → ⊥
    by_act (Asks (NodeOf i) asked next said) (inl none) file = refused said (process_refusal_text model.Foreign) none.1 file
    by_act (Asks (NodeOf i) asked next said) (inr none) file = refused said (codes "L6") none.1 file
    by_act (Asks (AgentOf a) asked next said) none file = refused said (codes "L6") none.1 file
    by_act (GoesOn w text first) none file = none
    by_act (Shortens w next said) none file = none

-- a snapshot that is exported, and whose file the bytes are
record IsExported (xs : List Answer) (period : ℕ) (last : List ℕ) : Type 0 where
  pub snapshot : Snapshot
  pub has : Contains xs (saying (HasExported snapshot))
  pub bytes : last ≡ words_text (HasExported snapshot)
  pub same : snapshot.period ≡ period

said_exports : (name said : List ℕ) (x : Answer) (xs : List Answer) (period : ℕ)
    → ((s : Snapshot) → x.words ≡ HasExported s → x ≡ saying (HasExported s)) → SaysJust name said x → IsFileOf period (told_in said).last
    → IsExported (x ∷ xs) period (told_in said).last
said_exports name said x xs period alone says file =
    let one = words_apart x.words period file.rest (sym says.words ∙ file.words) in
    let bytes : (told_in said).last ≡ words_text (HasExported one.0) = says.words ∙ ap words_text one.1 in
    record {
      snapshot = one.0;
      has = subst (λ y. Contains (y ∷ xs) (saying (HasExported one.0))) (sym (alone one.0 one.1)) (0, omega arith, refl);
      bytes = bytes;
      same = period_told one.0 period file.rest file.is_period (sym bytes ∙ file.words);
    }

exported_later : (x : Answer) (xs : List Answer) (period : ℕ) (last : List ℕ) → IsExported xs period last → IsExported (x ∷ xs) period last
exported_later x xs period last it =
    record {
      snapshot = it.snapshot;
      has = Contains-append_right (x ∷ []) xs (saying (HasExported it.snapshot)) it.has;
      bytes = it.bytes;
      same = it.same;
    }

module _ (g : Group) (h : HostAct) (period : ℕ) (file : IsFileOf period (told_in (said_by h)).last) where
  abbrev Exports : List Answer → Type 0
  Exports xs = IsExported xs period (told_in (said_by h)).last

  none_here : (k : HostAct) → AsksNothing k → k ≡ h → ⊥
  none_here k nothing is = nothing_is_no_file h period (subst AsksNothing is nothing) file

  found : (hosts : List HostAct) (acts : List Act) (v : Processes) → AreTold g.name hosts acts (answers g v acts) → Contains hosts h
      → Exports (answers g v acts)
  found [] acts v told has = absurd (omega (arith, has.1))
  found (k ∷ hosts) [] v told has = elim (first_or_later k h hosts has) [
    | inl is ↦ absurd (none_here k told.0 is)
    | inr later ↦ found hosts [] v told.1 later
  ]
  found (k ∷ hosts) (a ∷ acts) v (inl told) has = elim (first_or_later k h hosts has) [
    | inl is ↦
        said_exports g.name (said_by h) (acted g v a).answer (answers g (acted g v a).after acts) period (λ s. act_alone s g v a)
        (subst (λ j. SaysJust g.name (said_by j) (acted g v a).answer) is told.1) file
    | inr later ↦ exported_later (acted g v a).answer (answers g (acted g v a).after acts) period _
        (found hosts acts (acted g v a).after told.2 later)
  ]
  found (k ∷ hosts) (a ∷ acts) v (inr told) has = elim (first_or_later k h hosts has) [
    | inl is ↦ absurd (none_here k told.0 is)
    | inr later ↦ found hosts (a ∷ acts) v told.1 later
  ]

-- what the history exports, a world exports: under the group's sheet and issuer, and the first month from nothing on
is_made_of : {period : ℕ} {last : List ℕ} (g : Group) (acts : List Act) → IsHistory g (begun g) acts
    → (it : IsExported (answers g (begun g) acts) period last) → IsMadeOf g acts period last it.snapshot
is_made_of {period} {last} g acts history it =
    let done = is_done_by_world g acts history in
    let s = it.snapshot in
    let export = done.headline.exports s (exported_among g s acts (answers g (begun g) acts) done.events (opened g done.room) done.matched it.has) in
    record {
      has = it.has;
      bytes = it.bytes;
      same = it.same;
      sheet = export.sheet ∙ done.headline.sheet_kept;
      issuer = export.issuer ∙ done.headline.issuer_kept;
      opens = λ zero.
          export.from ∙ ap (cut_before (play (opened g done.room) done.events).1.agents done.headline.cuts) (it.same ∙ zero)
          ∙ ap zero_cut done.headline.agents_kept;
    }

-- ---- two files

module _ (g : Group) (hosts : List HostAct) (history : IsHostHistory g (begun_machines g) hosts) (h k : HostAct) (has : Contains hosts h)
    (had : Contains hosts k) where
  abbrev it : ComeToHistory g hosts
  it = come_to_history g hosts history

  pub bytes_agree : (period : ℕ) → IsFileOf period (told_in (said_by h)).last → IsFileOf period (told_in (said_by k)).last
      → (told_in (said_by h)).last ≡ (told_in (said_by k)).last
  bytes_agree period one two =
      let s = found g h period one hosts it.acts (begun g) it.told has in
      let t = found g k period two hosts it.acts (begun g) it.told had in
      let same = files_are_the_same g it.acts it.is_history s.snapshot t.snapshot s.has t.has (s.same ∙ sym t.same) in
      s.bytes ∙ ap (λ x. words_text (HasExported x)) same ∙ sym t.bytes

-- ---- of a history to which they come

module _ (g : Group) (hosts : List HostAct) (it : ComeToHistory g hosts) (h k : HostAct) (has : Contains hosts h) (had : Contains hosts k) where
  pub are_made_of : (period other : ℕ) → IsFileOf period (told_in (said_by h)).last → IsFileOf other (told_in (said_by k)).last
      → AreMadeOf g it.acts period other (told_in (said_by h)).last (told_in (said_by k)).last
  are_made_of period other one two =
      let s = found g h period one hosts it.acts (begun g) it.told has in
      let t = found g k other two hosts it.acts (begun g) it.told had in
      record {
        s = s.snapshot;
        t = t.snapshot;
        first = is_made_of g it.acts it.is_history s;
        second = is_made_of g it.acts it.is_history t;
        alike = λ same. files_are_the_same g it.acts it.is_history s.snapshot t.snapshot s.has t.has (s.same ∙ same ∙ sym t.same);
        once = λ agent seq above below over under.
            sym s.same ∙ each_batch_once g it.acts it.is_history s.snapshot t.snapshot s.has t.has agent seq above below over under
            ∙ t.same;
        follows = λ next.
            next_begins_there g it.acts it.is_history s.snapshot t.snapshot s.has t.has
            (ap (λ p. p + 1) s.same ∙ next ∙ sym t.same);
      }

-- ---- of one file

pub of_journals : (g : Group) (hosts : List HostAct) (it : ComeToHistory g hosts) → (h : HostAct) → Contains hosts h → (period : ℕ)
    → IsFileOf period (told_in (said_by h)).last → IsOfJournals g hosts it.acts period (told_in (said_by h)).last
of_journals g hosts it h has period file =
    let s = found g h period file hosts it.acts (begun g) it.told has in
    record {
      s = s.snapshot;
      made_of = is_made_of g it.acts it.is_history s;
      batches = λ agent a runs.
          let same : (after g (begun g) it.acts).journals agent ≡ a.journal =
          its_journal _ a (it.stand.running (AgentOf agent) (process.Agent a) runs) in
          batches_are_journaled g it.acts it.is_history s.snapshot s.has agent ∙ ap (up_to s.snapshot.to) same;
    }
  where
    its_journal : (b a : AgentSelf) → Some (process.Agent b) ≡ Some (process.Agent a) → b.journal ≡ a.journal
    its_journal b a is = cc

-- What stands behind a text where a process that stays as it is answers.
use Rattle.std.proofs.Common.{◌≡◌, ◌<◌, ℕ, List, [], ◌∷◌, ◌++◌, ◌+◌, cond, Bor, refl, sym, ap, ap₂, subst, ◌∙◌}
use Rattle.std.specs.Prelude.{codes, decimal, Option, None, Some, Result, Ok, Err, IfOk, IfSome, MatchOption, OnOk, is_ok, unwrap_or}
use Rattle.std.specs.Option.{option_copied, option_map}
use Rattle.std.specs.Arc.{arc_value}
use Rattle.std.proofs.lemmas.List.{append_assoc, append-nil}
use Rattle.std.proofs.lemmas.Fmt.{decimal_digit}
use Rattle.metering_model.specs.Batch.{Batch, batch_text, line_of_fields}
use Rattle.metering_model.specs.Holding.{Holding, held}
use Rattle.metering_model.specs.KeptText.{kept_text}
use Rattle.metering_model.specs.Transcript.{file_of, line, line_count, reply_text, with_number}
use Rattle.metering_model.specs.World as world
use Rattle.metering_model.specs.declared.Refusal.TheVariants.{Missing}
use Rattle.process_laws.specs.LocalSteps as model
use Rattle.packet_text.specs.PacketText.{lines_of_batch}
use Rattle.packet_text.proofs.Pieces.{then_ok}
use Rattle.log_text.specs.LogText.{Increment, Takes, section_line}
use Rattle.log_text.proofs.WrittenLines.{then_put}
use Rattle.group_events.specs.Batches.{batch_of}
use Rattle.group_process.specs.Added.{AddsJust, increment_after}
use Rattle.group_process.specs.Answers.{Does, begun_answer, exported_answer, refusal_of, taken_answer}
use Rattle.group_process.specs.Journals.{DoesAsAgent, journaled_answer}
use Rattle.group_process.specs.declared.agents.Journaled.{Journaled}
use Rattle.group_process.specs.declared.beginning.Begun.{Begun}
use Rattle.group_process.specs.declared.refusals.ProcessRefusal.{ProcessRefusal}
use Rattle.group_process.specs.declared.taking.Taken.{Taken}
use Rattle.group_process.specs.Selves.{NodeSelf, AgentSelf, kept_of_node, kept_of_agent}
use Rattle.process_text.specs.declared.requests.NodeRequest.{NodeRequest as RequestOfNode}
use Rattle.process_text.specs.declared.requests.AgentRequest.{AgentRequest as RequestOfAgent}
use Rattle.process_text.specs.Answers.{AnswersAgent, AnswersNode, added_text, addressee, answer_text, packet_sent_text, refused_text, words_text}
use Rattle.process_text.specs.Requests.{AsksAgent, AsksNode, NoAgentCommand, NoNodeCommand, NoPacket, agent_request, node_request}
use Rattle.process_text.specs.Inner.Read.{agent_request_of, node_request_of}
use Rattle.process_text.specs.Inner.Written.{AppendsAgent, AppendsNode, given_text}

-- ---- texts that are joined

pub joined : (a b c d : List ℕ) → a ++ b ++ c ++ d ≡ a ++ (b ++ (c ++ d))
joined a b c d = append_assoc (a ++ b) c d ∙ append_assoc a b (c ++ d)

abbrev batch_numbered : ℕ → List ℕ
batch_numbered n = codes "|batch|" ++ decimal n

pub batch_line : (before group : List ℕ) (n : ℕ)
    → before ++ codes "P1|" ++ group ++ section_line (codes "|batch|") n
    ≡ before ++ line_of_fields (codes "P1" ∷ group ∷ codes "batch" ∷ decimal n ∷ [])
batch_line before group n =
    append_assoc (before ++ codes "P1|") group (batch_numbered n ++ 10 ∷ [])
    ∙ append_assoc before (codes "P1|") (group ++ (batch_numbered n ++ 10 ∷ []))
    ∙ ap (λ t. before ++ (codes "P1|" ++ t)) (sym (append_assoc group (batch_numbered n) (10 ∷ [])))

-- where no file stands behind a text
pub nothing_behind : (text : List ℕ) (file : Option (List ℕ)) → file ≡ None → text ++ unwrap_or file [] ≡ text
nothing_behind text file none = ap (λ f. text ++ unwrap_or f []) none ∙ append-nil text

-- a word and a number, and a line feed behind them
pub line_put : (old one word : List ℕ) (n number : ℕ) → n ≡ number → one ≡ old ++ with_number word n → one ++ 10 ∷ [] ≡ old ++ line (with_number word number)
line_put old one word n number same put =
    ap (λ t. t ++ 10 ∷ []) (put ∙ ap (λ k. old ++ with_number word k) same) ∙ append_assoc old (with_number word number) (10 ∷ [])

-- the same of a number of one digit
pub digit_put : (old one word : List ℕ) (n : ℕ) → n < 10 → one ≡ old ++ word → one ++ (48 + n) ∷ 10 ∷ [] ≡ old ++ line (with_number word n)
digit_put old one word n small put =
    ap (λ t. t ++ (48 + n) ∷ 10 ∷ []) put ∙ append_assoc old word ((48 + n) ∷ 10 ∷ [])
    ∙ ap (λ ds. old ++ (word ++ (ds ++ 10 ∷ []))) (sym (decimal_digit n small))
    ∙ ap (λ t. old ++ t) (sym (append_assoc word (decimal n) (10 ∷ [])))

-- what ends a line and stands below it
pub below_put : (old one two above below : List ℕ) → one ≡ old ++ above → two ≡ one ++ (10 ∷ below) → two ≡ old ++ (line above ++ below)
below_put old one two above below first second =
    second ∙ ap (λ t. t ++ 10 ∷ below) first ∙ append_assoc old above (10 ∷ below) ∙ ap (λ t. old ++ t) (sym (append_assoc above (10 ∷ []) below))

-- three pieces, one behind the other
pub three_put : (before one two three a b c : List ℕ) → one ≡ before ++ a → two ≡ one ++ b → three ≡ two ++ c → three ≡ before ++ (a ++ b ++ c)
three_put before one two three a b c first second third =
    third ∙ ap (λ t. t ++ c) second ∙ ap (λ t. t ++ b ++ c) first ∙ joined before a b c ∙ ap (λ t. before ++ t) (sym (append_assoc a b c))

-- what a log gets, what is sent to all, and a line that ends with a number
pub answer_put : (name name' : List ℕ) (added : Option Increment) (packet : world.Packet) (before one two three word : List ℕ) (number number' : ℕ)
    → one ≡ before ++ added_text added → two ≡ one ++ packet_sent_text name' None packet → three ≡ two ++ line (with_number word number')
    → name' ≡ name → number' ≡ number
    → three ≡ before ++ (added_text added ++ packet_sent_text name None packet ++ line (with_number word number))
answer_put name name' added packet before one two three word number number' first second third is_name is_number =
    let told : (name : List ℕ) (number : ℕ) → List ℕ = λ n k. added_text added ++ packet_sent_text n None packet ++ line (with_number word k) in
    three_put before one two three (added_text added) (packet_sent_text name' None packet) (line (with_number word number')) first second third
    ∙ ap₂ (λ n k. before ++ told n k) is_name is_number

pub batch_put : (old group one two bytes : List ℕ) (b : Batch) (lines : ℕ) → lines ≡ lines_of_batch b → bytes ≡ batch_text b
    → one ≡ old ++ section_line (codes "send " ++ codes "all" ++ codes " ") (1 + lines)
    → two ≡ one ++ line_of_fields (codes "P1" ∷ group ∷ codes "batch" ∷ decimal lines ∷ [])
    → two ++ bytes ≡ old ++ packet_sent_text group None (world.CarriesBatch b)
batch_put old group one two bytes b lines same text first second =
    let above : ℕ → List ℕ = λ n. section_line (codes "send " ++ codes "all" ++ codes " ") (1 + n) in
    let head : ℕ → List ℕ = λ n. line_of_fields (codes "P1" ∷ group ∷ codes "batch" ∷ decimal n ∷ []) in
    ap (λ t. t ++ bytes) second
    ∙ ap (λ t. t ++ head lines ++ bytes) first
    ∙ joined old (above lines) (head lines) bytes
    ∙ ap₂ (λ n t. old ++ (above n ++ (head n ++ t))) same text

-- ---- what is journaled is told

pub agent_journals : (offer : world.Offer) (old new : AgentSelf) (r : Result Journaled ProcessRefusal) (j : Journaled) (b : Batch) (before after : List ℕ)
    → DoesAsAgent (model.JournalBatch offer) old new (journaled_answer r)
    → IfOk r (λ i. AddsJust (kept_of_agent old) (kept_of_agent new) (Some (Takes (batch_of (arc_value i.batch)))))
    → r ≡ Ok j → b ≡ batch_of (arc_value j.batch)
    → after ≡ before ++ answer_text new.group.name (λ sent. None) (Some (Takes b)) (record { words = model.HasJournaled b.seq; sends = Some (world.CarriesBatch b) })
    → AppendsAgent (AsksAgent (model.JournalBatch offer)) old new before after
agent_journals offer old new r j b before after does adds is of put =
    let done : DoesAsAgent (model.JournalBatch offer) old new (journaled_answer (Ok j)) = subst (λ x. DoesAsAgent (model.JournalBatch offer) old new (journaled_answer x)) is does in
    let told : Batch → model.Answer = λ x. record { words = model.HasJournaled x.seq; sends = Some (world.CarriesBatch x) } in
    record {
      said = answer_text new.group.name (λ sent. None) (Some (Takes b)) (told b);
      answers = record {
        answer = told b;
        does = subst (λ x. DoesAsAgent (model.JournalBatch offer) old new (told x)) (sym of) done;
        added = Some (Takes b);
        adds = subst (λ x. AddsJust (kept_of_agent old) (kept_of_agent new) (Some (Takes x))) (sym of)
            (subst (λ x. IfOk x (λ i. AddsJust (kept_of_agent old) (kept_of_agent new) (Some (Takes (batch_of (arc_value i.batch)))))) is adds);
        text = ap (λ g. answer_text g.name (λ sent. None) (Some (Takes b)) (told b)) done.group;
      };
      joined = put;
    }

-- ---- what a node begins and takes is told

pub node_begins : (old new : NodeSelf) (b : Begun) (before after : List ℕ) → Does model.BeginBallot old new (begun_answer (Ok b))
    → AddsJust (kept_of_node old) (kept_of_node new) (increment_after b.added (kept_of_node new))
    → after ≡ before ++ answer_text new.group.name (λ sent. None) (increment_after b.added (kept_of_node new)) (begun_answer (Ok b))
    → AppendsNode (AsksNode model.BeginBallot) old new before after
node_begins old new b before after does adds put = record {
  said = answer_text new.group.name (λ sent. None) (increment_after b.added (kept_of_node new)) (begun_answer (Ok b));
  answers = record {
    answer = begun_answer (Ok b);
    does = does;
    added = increment_after b.added (kept_of_node new);
    adds = adds;
    text = ap (λ g. answer_text g.name (λ sent. None) (increment_after b.added (kept_of_node new)) (begun_answer (Ok b))) does.group;
  };
  joined = put;
}

pub node_takes : (old new : NodeSelf) (name name' : List ℕ) (p p' taken : world.Packet) (o : Option Taken) (t : Taken) (before after : List ℕ)
    → name' ≡ name → p' ≡ p → taken ≡ p → o ≡ Some t
    → Does (model.TakePacket name' p') old new (taken_answer o)
    → IfSome o (λ t. AddsJust (kept_of_node old) (kept_of_node new) (increment_after t.added (kept_of_node new)))
    → after ≡ before ++ answer_text new.group.name (addressee new.group.voters taken) (increment_after t.added (kept_of_node new)) (taken_answer (Some t))
    → AppendsNode (AsksNode (model.TakePacket name p)) old new before after
node_takes old new name name' p p' taken o t before after is_name is_packet is_taken is does adds put = record {
  said = answer_text new.group.name (addressee new.group.voters p) (increment_after t.added (kept_of_node new)) (taken_answer (Some t));
  answers = record {
    answer = taken_answer (Some t);
    does = subst (λ q. Does (model.TakePacket name q) old new (taken_answer (Some t))) is_packet
        (subst (λ n. Does (model.TakePacket n p') old new (taken_answer (Some t))) is_name
        (subst (λ x. Does (model.TakePacket name' p') old new (taken_answer x)) is does));
    added = increment_after t.added (kept_of_node new);
    adds = subst (λ x. IfSome x (λ t. AddsJust (kept_of_node old) (kept_of_node new) (increment_after t.added (kept_of_node new)))) is adds;
    text = ap (λ g. answer_text g.name (addressee g.voters p) (increment_after t.added (kept_of_node new)) (taken_answer (Some t))) does.group;
  };
  joined = put ∙ ap (λ q. before ++ answer_text new.group.name (addressee new.group.voters q) (increment_after t.added (kept_of_node new)) (taken_answer (Some t))) is_taken;
}

-- ---- what is exported is told

pub node_exports : (n : NodeSelf) (period : ℕ) (r r' : Result world.Snapshot ProcessRefusal) (before after : List ℕ)
    → exported_answer r ≡ model.exporting n.group n.node period → r ≡ r' → after ≡ before ++ words_text (exported_answer r').words
    → AppendsNode (AsksNode (model.ExportPeriod period)) n n before after
node_exports n period r (Ok s) before after does is put = record {
  said = words_text (model.HasExported s);
  answers = record {
    answer = model.saying (model.HasExported s);
    does = record { does = ap (λ a. model.unmoved a n.node) (sym does ∙ ap exported_answer is); group = refl; number = refl };
    added = None;
    adds = refl;
    text = refl;
  };
  joined = put;
}
node_exports n period r (Err why) before after does is put = record {
  said = words_text (model.RefusedFor (refusal_of why));
  answers = record {
    answer = model.refusing (refusal_of why);
    does = record { does = ap (λ a. model.unmoved a n.node) (sym does ∙ ap exported_answer is); group = refl; number = refl };
    added = None;
    adds = refl;
    text = refl;
  };
  joined = put;
}

-- ---- what is kept is told

pub node_keeps : (n : NodeSelf) (before text : List ℕ) → text ≡ kept_text (kept_of_node n)
    → AppendsNode (AsksNode model.TellKept) n n before (before ++ reply_text (world.KeptText text))
node_keeps n before text same = record {
  said = reply_text (world.KeptText text);
  answers = record {
    answer = model.saying (model.KeptIs text);
    does = record { does = ap (λ t. model.unmoved (model.saying (model.KeptIs t)) n.node) (sym same); group = refl; number = refl };
    added = None;
    adds = refl;
    text = refl;
  };
  joined = refl;
}

pub agent_keeps : (a : AgentSelf) (before text : List ℕ) → text ≡ kept_text (kept_of_agent a)
    → AppendsAgent (AsksAgent model.TellJournal) a a before (before ++ reply_text (world.KeptText text))
agent_keeps a before text same = record {
  said = reply_text (world.KeptText text);
  answers = record {
    answer = model.saying (model.KeptIs text);
    does = record { does = ap (λ t. model.unmoved_journal (model.saying (model.KeptIs t)) a.journal) (sym same); group = refl; number = refl };
    added = None;
    adds = refl;
    text = refl;
  };
  joined = refl;
}

-- ---- a batch is sent once more

-- the batch, and that it was sent
pub sent_put : (name before one : List ℕ) (o : Option Batch) (b : Batch) (agent seq : ℕ) → o ≡ Some b
    → one ≡ before ++ packet_sent_text name None (world.CarriesBatch b) → one ++ line (codes "sent") ≡ before ++ given_text name o agent seq
sent_put name before one o b agent seq is put =
    ap (λ t. t ++ line (codes "sent")) put ∙ append_assoc before (packet_sent_text name None (world.CarriesBatch b)) (line (codes "sent"))
    ∙ ap (λ x. before ++ given_text name x agent seq) (sym is)

abbrev given : Option Batch → (agent seq : ℕ) → model.Answer
given (Some b) agent seq = record { words = model.HasSent; sends = Some (world.CarriesBatch b) }
given None agent seq = model.refusing (model.OfModel (Missing agent seq))

given_told : (name : List ℕ) (o : Option Batch) (agent seq : ℕ) → given_text name o agent seq ≡ answer_text name (λ sent. None) None (given o agent seq)
given_told name None agent seq = refl
given_told name (Some b) agent seq = refl

-- what is lent is what is held
abbrev batch_lent : Option (Bor (List ℕ)) → Option Batch
batch_lent o = option_map batch_of (option_copied o)

abbrev IsLent : Option Batch → Option (Bor (List ℕ)) → Type 0
IsLent h o = MatchOption o (h ≡ None) (λ b. h ≡ Some (batch_of b.now))

sent_as_lent : (h : Holding) (agent seq : ℕ) (o : Option (Bor (List ℕ))) → IsLent (held h agent seq) o → model.sending_held h agent seq ≡ given (batch_lent o) agent seq
sent_as_lent h agent seq None absent = rw (absent, model.sending_held) refl
sent_as_lent h agent seq (Some b) there = rw (there, model.sending_held) refl

pub node_gives : (n : NodeSelf) (agent seq : ℕ) (o : Option (Bor (List ℕ))) (name before after : List ℕ) → IsLent (held n.node.kept.holding agent seq) o
    → name ≡ n.group.name → after ≡ before ++ given_text name (batch_lent o) agent seq
    → AppendsNode (AsksNode (model.SendBatch agent seq)) n n before after
node_gives n agent seq o name before after lent is_name put = record {
  said = given_text n.group.name (batch_lent o) agent seq;
  answers = record {
    answer = given (batch_lent o) agent seq;
    does = record { does = ap (λ a. model.unmoved a n.node) (sent_as_lent n.node.kept.holding agent seq o lent); group = refl; number = refl };
    added = None;
    adds = refl;
    text = given_told n.group.name (batch_lent o) agent seq;
  };
  joined = put ∙ ap (λ g. before ++ given_text g (batch_lent o) agent seq) is_name;
}

pub agent_gives : (a : AgentSelf) (number seq : ℕ) (o : Option (Bor (List ℕ))) (name before after : List ℕ) → IsLent (held a.journal a.number seq) o
    → name ≡ a.group.name → number ≡ a.number → after ≡ before ++ given_text name (batch_lent o) number seq
    → AppendsAgent (AsksAgent (model.SendAgain seq)) a a before after
agent_gives a number seq o name before after lent is_name is_number put = record {
  said = given_text a.group.name (batch_lent o) a.number seq;
  answers = record {
    answer = given (batch_lent o) a.number seq;
    does = record { does = ap (λ said. model.unmoved_journal said a.journal) (sent_as_lent a.journal a.number seq o lent); group = refl; number = refl };
    added = None;
    adds = refl;
    text = given_told a.group.name (batch_lent o) a.number seq;
  };
  joined = put ∙ ap₂ (λ g k. before ++ given_text g (batch_lent o) k seq) is_name is_number;
}

-- ---- what is no packet, or no command

pub foreign_told : {A E : Type 0} (r : Result A E) (n : NodeSelf) (before after : List ℕ) → after ≡ cond (is_ok r) (before ++ codes "refused G16\n") before
    → OnOk r (AppendsNode NoPacket n n before after)
foreign_told r n before after put =
    then_ok r _ _ (λ told. record { said = refused_text (codes "G16"); answers = (refl, refl); joined = told })
    (then_put r before after (codes "refused G16\n") (before ++ refused_text (codes "G16")) put refl)

pub node_commanded : {A E : Type 0} (r : Result A E) (n : NodeSelf) (before after : List ℕ) → after ≡ cond (is_ok r) (before ++ codes "refused L6\n") before
    → OnOk r (AppendsNode NoNodeCommand n n before after)
node_commanded r n before after put =
    then_ok r _ _ (λ told. record { said = refused_text (codes "L6"); answers = (refl, refl); joined = told })
    (then_put r before after (codes "refused L6\n") (before ++ refused_text (codes "L6")) put refl)

pub agent_commanded : {A E : Type 0} (r : Result A E) (a : AgentSelf) (before after : List ℕ) → after ≡ cond (is_ok r) (before ++ codes "refused L6\n") before
    → OnOk r (AppendsAgent NoAgentCommand a a before after)
agent_commanded r a before after put =
    then_ok r _ _ (λ told. record { said = refused_text (codes "L6"); answers = (refl, refl); joined = told })
    (then_put r before after (codes "refused L6\n") (before ++ refused_text (codes "L6")) put refl)

-- ---- what stands behind nothing is all

pub node_answered : {A E : Type 0} (r : Result A E) (found asked : RequestOfNode) (line below : List ℕ) (old new : NodeSelf) (before after : List ℕ)
    → ((b : List ℕ) → node_request_of b found ≡ node_request line b) → found ≡ asked → before ≡ []
    → OnOk r (AppendsNode (node_request_of below asked) old new before after) → OnOk r (AnswersNode (node_request line below) old new after)
node_answered r found asked line below old new before after by is none appends =
    then_ok r _ _ (λ a. subst (λ said. AnswersNode (node_request line below) old new said) (sym (a.joined ∙ ap (λ t. t ++ a.said) none))
    (subst (λ q. AnswersNode q old new a.said) (ap (node_request_of below) (sym is) ∙ by below) a.answers))
    appends

-- the same where nothing stands behind the text
pub node_answered_alone : {A E : Type 0} (r : Result A E) (found asked : RequestOfNode) (line below : List ℕ) (old new : NodeSelf) (before after : List ℕ) (file : Option (List ℕ))
    → ((b : List ℕ) → node_request_of b found ≡ node_request line b) → found ≡ asked → before ≡ [] → file ≡ None
    → OnOk r (AppendsNode (node_request_of below asked) old new before after)
    → OnOk r (AnswersNode (node_request line below) old new (after ++ unwrap_or file []))
node_answered_alone r found asked line below old new before after file by is none alone appends =
    subst (λ said. OnOk r (AnswersNode (node_request line below) old new said)) (sym (nothing_behind after file alone))
    (node_answered r found asked line below old new before after by is none appends)

pub agent_answered : {A E : Type 0} (r : Result A E) (found asked : RequestOfAgent) (line below : List ℕ) (old new : AgentSelf) (before after : List ℕ)
    → ((b : List ℕ) → agent_request_of b found ≡ agent_request line b) → found ≡ asked → before ≡ []
    → OnOk r (AppendsAgent (agent_request_of below asked) old new before after) → OnOk r (AnswersAgent (agent_request line below) old new after)
agent_answered r found asked line below old new before after by is none appends =
    then_ok r _ _ (λ a. subst (λ said. AnswersAgent (agent_request line below) old new said) (sym (a.joined ∙ ap (λ t. t ++ a.said) none))
    (subst (λ q. AnswersAgent q old new a.said) (ap (agent_request_of below) (sym is) ∙ by below) a.answers))
    appends

-- ---- a file, and the line above it

abbrev exported_line : (period lines : ℕ) → List ℕ
exported_line period lines = line (with_number (codes "exported period ") period ++ with_number (codes " lines ") lines)

pub file_told : (s : world.Snapshot) (old above file : List ℕ) (period lines : ℕ)
    → above ≡ old ++ exported_line period lines → period ≡ s.period → lines ≡ line_count (file_of s) → file ≡ file_of s
    → above ++ file ≡ old ++ reply_text (world.Exported s)
file_told s old above file period lines is_above of counted is_file =
    ap₂ ◌++◌ is_above is_file ∙ append_assoc old (exported_line period lines) (file_of s)
    ∙ ap₂ (λ p n. old ++ (exported_line p n ++ file_of s)) of counted

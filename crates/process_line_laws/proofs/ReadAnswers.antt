-- An answer is read as it is meant, from its last part up: what stands below a part does not change how the part is read.
use Rattle.std.proofs.Common.{◌≡◌, ℕ, zero, suc, ◌+◌, ◌≤◌, Bool, true, false, not, List, [], ◌∷◌, ◌++◌, length, take, drop, Option, Some, None, codes, decimal}
use Rattle.std.proofs.Common.{refl, sym, ap, ap₂, ◌∙◌, subst, arith, append-nil, append_assoc, length-append}
use Rattle.std.specs.Prelude.{◌==◌, if◌then◌else◌}
use Rattle.std.specs.List.{list_all}
use Rattle.std.specs.Option.{option_map}
use Rattle.std.proofs.Math.Seq.{take-append_seam, drop-append_seam}
use Rattle.std.proofs.lemmas.Bool.{and_parts, and_from}
use Rattle.metering_model.specs.Batch.{Batch, IsWellFormed, lacks}
use Rattle.metering_model.specs.BatchReading.{Lines, lines_in, whole_in}
use Rattle.metering_model.specs.KeptText.{KeptAmong, text_of_lines}
use Rattle.metering_model.specs.Transcript.{file_of, if_any, line_count, with_number}
use Rattle.metering_model.specs.World.{Packet, CarriesBatch, Prepare, Promise, Accept, Accepted, Decided}
use Rattle.metering_model.proofs.BatchLaws.{batch_lines, lines_are_text}
use Rattle.metering_model.proofs.Decimals.{decimal_lacks_blank, decimal_lacks_feed}
use Rattle.metering_model.proofs.FieldLaws.{whole_written}
use Rattle.metering_model.proofs.LineLaws.{line_lacks_feed}
use Rattle.metering_model.proofs.Splitting.{ended, lines_give_back, lines_of_text, list_all_both}
use Rattle.process_laws.specs.LocalSteps as model
use Rattle.process_laws.specs.LocalSteps.{Answer, Words, HasTaken, HasBegun, HasJournaled, HasExported, KeptIs, HasSent, NodeWentOn, AgentWentOn, RefusedFor}
use Rattle.packet_text.specs.PacketText.{◌>>=◌, HasPacketText, IsSent, packet_text, text_below, lines_of_batch}
use Rattle.packet_text.proofs.PacketLaws.{line_fields, packet_line}
use Rattle.packet_text.proofs.SentNumbers.{group_is_inner}
use Rattle.packet_text.proofs.SentPackets.{fields_are_inner}
use Rattle.log_text.specs.LogText.{HasIncrementText, Increment, BeginsRound, SetsBallots, Learns, Takes, increment_text, lines_of_increment}
use Rattle.log_text.proofs.IncrementLaws.{batch_lacks_feed, batch_size, increment_lacks_feed, increment_lines_are_text, increment_size, increment_some, lines_of, section, section_lacks_feed}
use Rattle.log_text.proofs.LogLaws.{lines_above}
use Rattle.process_text.specs.declared.processes.Process.{Process}
use Rattle.process_text.specs.declared.processes.Process.TheVariants as process
use Rattle.group_process.specs.Added.{AddsJust}
use Rattle.group_process.specs.Selves.{AgentSelf, NodeSelf, kept_of_agent, kept_of_node}
use Rattle.process_text.specs.Answers.{TellsAgent, TellsNode, added_text, addressee_of, addressee_text, answer_text, begun_text, lines_of_packet, packet_sent_text, process_refusal_text, refused_text, sent_text, words_text}
use Rattle.process_line_laws.specs.Told.{MayBeAdded, MayBeSent, Receiver, ToLog, ToNodes, Section, Told, behind_space, for_receiver, just, meant, packet_lines, section_said, texts_sent, told_by, told_in, with_lines}
use Rattle.process_line_laws.proofs.FirstLines.{first_begins}

-- the text is read so, however many lines there may be at most
abbrev pub IsReadAs : List ℕ → Told → Type 0
IsReadAs text t = (m : ℕ) → length (lines_in text).lines ≤ m → told_by m (lines_in text).lines (lines_in text).rest ≡ t

pub so_told : (text : List ℕ) (t : Told) → IsReadAs text t → told_in text ≡ t
so_told text t is = is (length (lines_in text).lines) (omega arith)

-- what is told where a line stands first that counts so many lines, or none
abbrev by_section : List ℕ → List (List ℕ) → List ℕ → ℕ → Option Section → Told
by_section l ls rest m o = elim o [
  | None ↦ just (text_of_lines (l ∷ ls) ++ rest)
  | Some s ↦ with_lines s.receiver (text_of_lines (take s.lines ls)) (told_by m (drop s.lines ls) rest)
]

-- ---- the last line

last_told : (ls : List (List ℕ)) (rest : List ℕ) (m : ℕ) → ((l : List ℕ) (more : List (List ℕ)) → ls ≡ l ∷ more → section_said l ≡ None)
    → told_by m ls rest ≡ just (text_of_lines ls ++ rest)
last_told ls rest zero none = refl
last_told [] rest (suc m) none = refl
last_told (l ∷ ls) rest (suc m) none = ap (by_section l ls rest m) (none l ls refl)

-- a line that begins with this word counts no lines, so it is the last, with all that stands below it
word_read : (word t : List ℕ) → lacks 10 word ≡ true → ((more : List ℕ) → section_said (word ++ more) ≡ None)
    → IsReadAs (word ++ t) (just (word ++ t))
word_read word t whole none m enough =
    let text = word ++ t in
    last_told (lines_in text).lines (lines_in text).rest m
    (λ l ls is. let b = first_begins word t l ls whole is in ap section_said b.1 ∙ none b.0)
    ∙ ap just (lines_give_back text)

pub refused_read : (why : List ℕ) → IsReadAs (refused_text why) (just (refused_text why))
refused_read why = word_read (codes "refused ") (why ++ 10 ∷ []) refl (λ more. refl)

pub words_read : (w : Words) → IsReadAs (words_text w) (just (words_text w))
words_read (HasTaken learned) = word_read (codes "delivered") (if_any (codes " learned ") learned ++ 10 ∷ []) refl (λ more. refl)
words_read (HasBegun ballot) = word_read (codes "started ballot ") (decimal ballot ++ 10 ∷ []) refl (λ more. refl)
words_read (HasJournaled seq) = word_read (codes "journaled seq ") (decimal seq ++ 10 ∷ []) refl (λ more. refl)
words_read (HasExported s) =
    word_read (codes "exported period ")
    ((decimal s.period ++ with_number (codes " lines ") (line_count (file_of s)) ++ 10 ∷ []) ++ file_of s) refl (λ more. refl)
words_read (KeptIs text) = word_read (codes "kept lines ") ((decimal (line_count text) ++ 10 ∷ []) ++ text) refl (λ more. refl)
words_read HasSent = word_read (codes "sent") (10 ∷ []) refl (λ more. refl)
words_read (NodeWentOn period round) =
    word_read (codes "begun period ") (decimal period ++ with_number (codes " round ") round ++ 10 ∷ []) refl (λ more. refl)
words_read (AgentWentOn seq) = word_read (codes "begun seq ") (decimal seq ++ 10 ∷ []) refl (λ more. refl)
words_read (RefusedFor why) = refused_read (process_refusal_text why)

pub begun_read : (p : Process) → IsReadAs (begun_text p) (just (begun_text p))
begun_read (process.Node n) = words_read (NodeWentOn _ _)
begun_read (process.Agent a) = words_read (AgentWentOn _)

-- ---- a section above it

counted_read : (l : List ℕ) (body : List (List ℕ)) (receiver : Receiver) (text : List ℕ) (t : Told) → lacks 10 l ≡ true
    → list_all (lacks 10) body ≡ true
    → section_said l ≡ Some (for_receiver receiver (length body)) → IsReadAs text t
    → IsReadAs (text_of_lines (l ∷ body) ++ text) (with_lines receiver (text_of_lines body) t)
counted_read l body receiver text t whole all said later m enough =
    let above : lines_in (text_of_lines (l ∷ body) ++ text)
    ≡ record { lines = (l ∷ body) ++ (lines_in text).lines; rest = (lines_in text).rest } =
    lines_above (l ∷ body) text (and_from _ _ whole all) in
    ap (λ (x : Lines). told_by m x.lines x.rest) above ∙ by_most m (subst (λ (x : Lines). length x.lines ≤ m) above enough)
  where
    more : List (List ℕ)
    more = (lines_in text).lines

    rest : List ℕ
    rest = (lines_in text).rest

    by_most : (m : ℕ) → length ((l ∷ body) ++ (lines_in text).lines) ≤ m
        → told_by m ((l ∷ body) ++ (lines_in text).lines) (lines_in text).rest ≡ with_lines receiver (text_of_lines body) t
    by_most zero enough = absurd (omega (arith, enough))
    by_most (suc m) enough =
        let size = length-append body (lines_in text).lines in
        ap (by_section l (body ++ (lines_in text).lines) (lines_in text).rest m) said
        ∙ ap₂ (λ taken left. with_lines receiver (text_of_lines taken) (told_by m left (lines_in text).rest))
        (take-append_seam body (lines_in text).lines) (drop-append_seam body (lines_in text).lines)
        ∙ ap (with_lines receiver (text_of_lines body)) (later m (omega (arith, enough, size)))

-- what is said of a number of lines for the log, or of a packet
abbrev by_kept : List ℕ → Option ℕ → Option Section
by_kept l o = elim o [ Some n ↦ Some (for_receiver ToLog n) | None ↦ option_map (for_receiver ToNodes) (packet_lines l) ]

kept_said : (n : ℕ) → 1 ≤ n → n ≤ 4_294_967_295 → section_said (section (codes "kept ") n) ≡ Some (for_receiver ToLog n)
kept_said n some most = ap (by_kept (section (codes "kept ") n)) (whole_written 1 4_294_967_295 n (omega arith) some most)

-- ---- what the log gets

few_lines : (b : Batch) → IsWellFormed b → 1 + lines_of_batch b ≤ 4_294_967_295
few_lines b is = let count = is.count in omega (arith, count)

increment_few : (agents : ℕ) (i : Increment) → HasIncrementText agents i → lines_of_increment i ≤ 4_294_967_295
increment_few agents (BeginsRound round) has = omega arith
increment_few agents (SetsBallots period a) has = omega arith
increment_few agents (Learns period cut) has = omega arith
increment_few agents (Takes b) has = few_lines b has

pub increment_said : (agents : ℕ) (i : Increment) → HasIncrementText agents i
    → section_said (section (codes "kept ") (lines_of_increment i)) ≡ Some (for_receiver ToLog (length (lines_of i)))
increment_said agents i has = kept_said (lines_of_increment i) (increment_some i) (increment_few agents i has)
    ∙ ap (λ k. Some (for_receiver ToLog k)) (sym (increment_size i))

increment_read : (agents : ℕ) (i : Increment) (text : List ℕ) (t : Told) → HasIncrementText agents i → IsReadAs text t
    → IsReadAs (added_text (Some i) ++ text) (with_lines ToLog (increment_text i) t)
increment_read agents i text t has later =
    let n = lines_of_increment i in
    subst (λ u. IsReadAs ((ended (section (codes "kept ") n) ++ u) ++ text) (with_lines ToLog u t)) (increment_lines_are_text i)
    (counted_read (section (codes "kept ") n) (lines_of i) ToLog text t (section_lacks_feed (codes "kept ") n refl)
    (increment_lacks_feed agents i has) (increment_said agents i has) later)

-- ---- what is sent

lines_under : Packet → List (List ℕ)
lines_under (CarriesBatch b) = batch_lines b
lines_under (Prepare period ballot) = []
lines_under (Promise from period ballot vote) = []
lines_under (Accept period ballot cut) = []
lines_under (Accepted from period ballot cut) = []
lines_under (Decided period cut) = []

under_is_lines : (p : Packet) → text_of_lines (lines_under p) ≡ text_below p
unfolding lines_under
under_is_lines (CarriesBatch b) = lines_are_text b
under_is_lines (Prepare period ballot) = refl
under_is_lines (Promise from period ballot vote) = refl
under_is_lines (Accept period ballot cut) = refl
under_is_lines (Accepted from period ballot cut) = refl
under_is_lines (Decided period cut) = refl

under_lacks_feed : (p : Packet) → IsSent p → list_all (lacks 10) (lines_under p) ≡ true
unfolding lines_under
under_lacks_feed (CarriesBatch b) h = batch_lacks_feed b h
under_lacks_feed (Prepare period ballot) h = refl
under_lacks_feed (Promise from period ballot vote) h = refl
under_lacks_feed (Accept period ballot cut) h = refl
under_lacks_feed (Accepted from period ballot cut) h = refl
under_lacks_feed (Decided period cut) h = refl

under_size : (p : Packet) → lines_of_packet p ≡ 1 + length (lines_under p)
unfolding lines_under
under_size (CarriesBatch b) = ap (λ n. 1 + n) (batch_size b)
under_size (Prepare period ballot) = refl
under_size (Promise from period ballot vote) = refl
under_size (Accept period ballot cut) = refl
under_size (Accepted from period ballot cut) = refl
under_size (Decided period cut) = refl

packet_few : (p : Packet) → IsSent p → lines_of_packet p ≤ 4_294_967_295
packet_few (CarriesBatch b) h = few_lines b h
packet_few (Prepare period ballot) h = omega arith
packet_few (Promise from period ballot vote) h = omega arith
packet_few (Accept period ballot cut) h = omega arith
packet_few (Accepted from period ballot cut) h = omega arith
packet_few (Decided period cut) h = omega arith

-- a packet's line, and those below it
pub lines_of_sent : (name : List ℕ) → Packet → List (List ℕ)
lines_of_sent name p = packet_line name p ∷ lines_under p

pub sent_is_lines : (name : List ℕ) (p : Packet) → text_of_lines (lines_of_sent name p) ≡ packet_text name p
unfolding lines_of_sent
sent_is_lines name p = ap (λ t. ended (packet_line name p) ++ t) (under_is_lines p)

pub sent_lacks_feed : (name : List ℕ) (p : Packet) → HasPacketText name p → list_all (lacks 10) (lines_of_sent name p) ≡ true
unfolding lines_of_sent
sent_lacks_feed name p h =
    let inner = and_from _ _ (group_is_inner name h.group) (fields_are_inner p) in
    and_from _ _ (line_lacks_feed (line_fields name p) inner) (under_lacks_feed p h.packet)

sent_size : (name : List ℕ) (p : Packet) → length (lines_of_sent name p) ≡ lines_of_packet p
unfolding lines_of_sent
sent_size name p = let size = under_size p in omega (arith, size)

-- the number stands behind the word that says for whom it is
pub past_space : (word t : List ℕ) → lacks 32 word ≡ true → behind_space (word ++ 32 ∷ t) ≡ Some t
past_space [] t h = refl
past_space (c ∷ word) t h =
    let both = and_parts (not (c == 32)) (lacks 32 word) h in
    by_test (c == 32) both.0 (past_space word t both.1)
  where
    by_test : (b : Bool) → not b ≡ true → behind_space (word ++ 32 ∷ t) ≡ Some t
        → (if b then Some (word ++ 32 ∷ t) else behind_space (word ++ 32 ∷ t)) ≡ Some t
    by_test false other rest = rest
    by_test true other rest = absurd (cc)

addressee_lacks : (o : Option ℕ) → (lacks 32 (addressee_text o) ≡ true) × (lacks 10 (addressee_text o) ≡ true)
addressee_lacks None = (refl, refl)
addressee_lacks (Some node) = (decimal_lacks_blank node, decimal_lacks_feed node)

abbrev pub send_words : Option ℕ → List ℕ
send_words to = codes "send " ++ addressee_text to ++ codes " "

abbrev numbered : Option (List ℕ) → Option ℕ
numbered o = o >>= λ t. whole_in 1 4_294_967_295 t

send_said : (to : Option ℕ) (n : ℕ) → 1 ≤ n → n ≤ 4_294_967_295 → section_said (section (send_words to) n) ≡ Some (for_receiver ToNodes n)
send_said to n some most =
    let word = addressee_text to in
    let number : behind_space ((word ++ codes " ") ++ decimal n) ≡ Some (decimal n) =
    ap behind_space (append_assoc word (codes " ") (decimal n)) ∙ past_space word (decimal n) (addressee_lacks to).0 in
    ap (λ o. option_map (for_receiver ToNodes) (numbered o)) number
    ∙ ap (option_map (for_receiver ToNodes)) (whole_written 1 4_294_967_295 n (omega arith) some most)

pub send_lacks_feed : (to : Option ℕ) (n : ℕ) → lacks 10 (section (send_words to) n) ≡ true
send_lacks_feed to n =
    section_lacks_feed (send_words to) n
    (list_all_both (λ c. not (c == 10)) (codes "send " ++ addressee_text to) (codes " ")
    (list_all_both (λ c. not (c == 10)) (codes "send ") (addressee_text to) refl (addressee_lacks to).1) refl)

pub packet_said : (name : List ℕ) (to : Option ℕ) (p : Packet) → HasPacketText name p
    → section_said (section (send_words to) (lines_of_packet p)) ≡ Some (for_receiver ToNodes (length (lines_of_sent name p)))
packet_said name to p has =
    let size = under_size p in
    send_said to (lines_of_packet p) (omega (arith, size)) (packet_few p has.packet)
    ∙ ap (λ k. Some (for_receiver ToNodes k)) (sym (sent_size name p))

packet_read : (name : List ℕ) (to : Option ℕ) (p : Packet) (text : List ℕ) (t : Told) → HasPacketText name p → IsReadAs text t
    → IsReadAs (packet_sent_text name to p ++ text) (with_lines ToNodes (packet_text name p) t)
packet_read name to p text t has later =
    let n = lines_of_packet p in
    subst (λ u. IsReadAs ((ended (section (send_words to) n) ++ u) ++ text) (with_lines ToNodes u t)) (sent_is_lines name p)
    (counted_read (section (send_words to) n) (lines_of_sent name p) ToNodes text t (send_lacks_feed to n) (sent_lacks_feed name p has)
    (packet_said name to p has) later)

-- ---- the whole

sends_read : (name : List ℕ) (to : Packet → Option ℕ) (sends : Option Packet) (w : Words) → MayBeSent name sends
    → IsReadAs (sent_text name to sends ++ words_text w) (record { kept = []; sent = texts_sent name sends; last = words_text w })
sends_read name to None w may = words_read w
sends_read name to (Some p) w may = packet_read name (to p) p (words_text w) (just (words_text w)) may (words_read w)

pub answer_meant : (name : List ℕ) (to : Packet → Option ℕ) (agents : ℕ) (added : Option Increment) (a : Answer) → MayBeAdded agents added
    → MayBeSent name a.sends
    → told_in (answer_text name to added a) ≡ meant name added a
answer_meant name to agents None a may sent =
    so_told (sent_text name to a.sends ++ words_text a.words) _ (sends_read name to a.sends a.words sent)
answer_meant name to agents (Some i) a may sent =
    let above = added_text (Some i) in
    let below = sent_text name to a.sends in
    ap told_in (append_assoc above below (words_text a.words))
    ∙ so_told (above ++ (below ++ words_text a.words)) _
    (increment_read agents i (below ++ words_text a.words) _ may (sends_read name to a.sends a.words sent))
    ∙ ap (λ t. record { kept = t; sent = texts_sent name a.sends; last = words_text a.words }) (append-nil (increment_text i))

-- ---- the numbers

lines_counted : (ls : List (List ℕ)) (text : List ℕ) (n : ℕ) → list_all (lacks 10) ls ≡ true → text_of_lines ls ≡ text → length ls ≡ n
    → (length (lines_in text).lines ≡ n) × ((lines_in text).rest ≡ [])
lines_counted ls text n all is size =
    let lines : lines_in text ≡ record { lines = ls; rest = [] } = ap lines_in (sym is) ∙ lines_of_text ls all in
    (ap (λ (x : Lines). length x.lines) lines ∙ size, ap (λ (x : Lines). x.rest) lines)

pub kept_counted : (agents : ℕ) (i : Increment) → HasIncrementText agents i
    → (length (lines_in (increment_text i)).lines ≡ lines_of_increment i) × ((lines_in (increment_text i)).rest ≡ [])
kept_counted agents i has =
    lines_counted (lines_of i) (increment_text i) (lines_of_increment i) (increment_lacks_feed agents i has) (increment_lines_are_text i)
    (increment_size i)

pub sent_counted : (name : List ℕ) (p : Packet) → HasPacketText name p
    → (length (lines_in (packet_text name p)).lines ≡ lines_of_packet p) × ((lines_in (packet_text name p)).rest ≡ [])
sent_counted name p has =
    lines_counted (lines_of_sent name p) (packet_text name p) (lines_of_packet p) (sent_lacks_feed name p has) (sent_is_lines name p)
    (sent_size name p)

-- ---- of processes

pub refused_told : (why : List ℕ) → told_in (refused_text why) ≡ just (refused_text why)
refused_told why = so_told (refused_text why) (just (refused_text why)) (refused_read why)

pub begun_told : (p : Process) → told_in (begun_text p) ≡ just (begun_text p)
begun_told p = so_told (begun_text p) (just (begun_text p)) (begun_read p)

-- the increment of what is kept may stand in a log of as many agents
pub may_be_added : (before now : KeptAmong) (added : Option Increment) → AddsJust before now added → MayBeAdded before.agents added
may_be_added before now None adds = tt
may_be_added before now (Some i) adds = adds.0

pub node_meant : (command : model.NodeCommand) (old new : NodeSelf) (said : List ℕ) (tells : TellsNode command old new said)
    → MayBeSent old.group.name tells.answer.sends
    → told_in said ≡ meant old.group.name tells.added tells.answer
node_meant command old new said tells may =
    ap told_in tells.text
    ∙ answer_meant old.group.name (addressee_of old.group.voters command) old.group.agents tells.added tells.answer
    (may_be_added (kept_of_node old) (kept_of_node new) tells.added tells.adds) may

pub agent_meant : (command : model.AgentCommand) (old new : AgentSelf) (said : List ℕ) (tells : TellsAgent command old new said)
    → MayBeSent old.group.name tells.answer.sends
    → told_in said ≡ meant old.group.name tells.added tells.answer
agent_meant command old new said tells may =
    ap told_in tells.text
    ∙ answer_meant old.group.name (λ sent. None) old.group.agents tells.added tells.answer
    (may_be_added (kept_of_agent old) (kept_of_agent new) tells.added tells.adds) may

-- The first answer of a text ends where its last line says, whatever stands behind it.
use Rattle.std.proofs.Common.{◌≡◌, ℕ, zero, suc, ◌≤◌, true, List, [], ◌∷◌, ◌++◌, length, map, take, drop, Option, Some, None, codes, decimal}
use Rattle.std.proofs.Common.{refl, sym, ap, ap₂, ◌∙◌, subst, arith, append-nil, append_assoc, length-append}
use Rattle.std.specs.Prelude.{◌==◌, not, unwrap_or}
use Rattle.std.specs.List.{flat_map, join_with_byte, list_all}
use Rattle.std.proofs.Math.Seq.{take-append_seam, drop-append_seam}
use Rattle.std.proofs.lemmas.Bool.{and_from}
use Rattle.metering_model.specs.Batch.{lacks}
use Rattle.metering_model.specs.BatchReading.{Lines, lines_in, lines_of_parts, whole_in}
use Rattle.metering_model.specs.File.{fields_of_row, header_line, quoted, row_text}
use Rattle.metering_model.specs.KeptText.{HasText, KeptAmong, kept_text, text_of_lines}
use Rattle.metering_model.specs.Row.{Row}
use Rattle.metering_model.specs.Rows.{rows}
use Rattle.metering_model.specs.Transcript.{code_text, file_of, if_any, kept_code_text, line, line_count, refusal_text, with_number}
use Rattle.metering_model.specs.World.{Packet, Snapshot}
use Rattle.metering_model.specs.declared.BatchCode.{BatchCode}
use Rattle.metering_model.specs.declared.BatchCode.TheVariants.{Head, Count, Fields, Time, Number, Text, Tags, TooLong}
use Rattle.metering_model.specs.declared.KeptCode.{KeptCode}
use Rattle.metering_model.specs.declared.KeptCode.TheVariants.{Head as BadHead, Cut as BadCut, Batch as NoBatch, Order as NotInOrder, Extra as HasExtra}
use Rattle.metering_model.specs.declared.Refusal.{Refusal}
use Rattle.metering_model.specs.declared.Refusal.TheVariants.{BadBatch, WrongSeq, BadTarget, Unpriced, NoPacket, NoNode, NotClosed, Missing, AllClosed, NoBallot, WorldFull, NoAgent, Observer, BadKept, NotKept}
use Rattle.metering_model.proofs.Decimals.{decimal_lacks_blank, decimal_lacks_feed}
use Rattle.metering_model.proofs.FieldLaws.{whole_written}
use Rattle.metering_model.proofs.KeptLaws.{lines_of_kept_text, writable_of}
use Rattle.metering_model.proofs.Splitting.{cut_last, ended, lines_give_back, list_all_both, parts_at}
use Rattle.byte_text.proofs.PastLines.{lines_lack}
use Rattle.process_laws.specs.LocalSteps.{Answer, ProcessRefusal, OfModel, Foreign, Unfit, Words, HasTaken, HasBegun, HasJournaled, HasExported, KeptIs, HasSent, NodeWentOn, AgentWentOn, RefusedFor}
use Rattle.packet_text.specs.PacketText.{◌>>=◌, HasPacketText, packet_text}
use Rattle.log_text.specs.LogText.{HasIncrementText, Increment, behind_word, increment_text, lines_of_increment}
use Rattle.log_text.proofs.IncrementLaws.{increment_lacks_feed, increment_lines_are_text, lines_of, section, section_lacks_feed}
use Rattle.log_text.proofs.LogLaws.{lines_above}
use Rattle.log_text.proofs.WrittenLines.{feeds_end_lines}
use Rattle.process_text.specs.Answers.{added_text, answer_text, lines_of_packet, packet_sent_text, process_refusal_text, refused_text, sent_text, words_text}
use Rattle.process_line_laws.specs.Told.{CanBeCounted, FirstTold, MayBeAdded, MayBeSent, Receiver, ToLog, ToNodes, Section, Told, first_by, first_told, for_receiver, just, lines_under, meant, section_said, texts_sent, with_lines}
use Rattle.process_line_laws.proofs.ReadAnswers.{increment_said, lines_of_sent, past_space, send_lacks_feed, send_words, sent_is_lines, sent_lacks_feed, packet_said}

-- the text is first, and told so, with that behind it
abbrev IsFirst : (text behind : List ℕ) → Told → Type 0
IsFirst text behind t = (m : ℕ) → length (lines_in (text ++ behind)).lines ≤ m
    → first_by m (lines_in (text ++ behind)).lines (lines_in (text ++ behind)).rest ≡ record { told = t; behind = behind }

-- what is told where a line stands first that counts so many lines, or none
abbrev by_section : List ℕ → List (List ℕ) → List ℕ → ℕ → Option Section → FirstTold
by_section l ls rest m o = elim o [
  | None ↦ record { told = just (text_of_lines (l ∷ take (lines_under l) ls)); behind = text_of_lines (drop (lines_under l) ls) ++ rest }
  | Some s ↦
      let more : FirstTold = first_by m (drop s.lines ls) rest in
      record { told = with_lines s.receiver (text_of_lines (take s.lines ls)) more.told; behind = more.behind }
]

-- ---- the last line

abbrev last_of : List ℕ → (taken left : List (List ℕ)) → List ℕ → FirstTold
last_of l taken left rest = record { told = just (text_of_lines (l ∷ taken)); behind = text_of_lines left ++ rest }

last_first : (l : List ℕ) (body : List (List ℕ)) (behind : List ℕ) → lacks 10 l ≡ true → list_all (lacks 10) body ≡ true
    → section_said l ≡ None → lines_under l ≡ length body
    → IsFirst (text_of_lines (l ∷ body)) behind (just (text_of_lines (l ∷ body)))
last_first l body behind whole all none count m enough =
    let above : lines_in (text_of_lines (l ∷ body) ++ behind)
    ≡ record { lines = (l ∷ body) ++ (lines_in behind).lines; rest = (lines_in behind).rest } =
    lines_above (l ∷ body) behind (and_from _ _ whole all) in
    ap (λ (x : Lines). first_by m x.lines x.rest) above ∙ by_most m (subst (λ (x : Lines). length x.lines ≤ m) above enough)
  where
    by_most : (m : ℕ) → length ((l ∷ body) ++ (lines_in behind).lines) ≤ m
        → first_by m ((l ∷ body) ++ (lines_in behind).lines) (lines_in behind).rest
        ≡ record { told = just (text_of_lines (l ∷ body)); behind = behind }
    by_most zero enough = absurd (omega (arith, enough))
    by_most (suc m) enough =
        let more = (lines_in behind).lines in
        let rest = (lines_in behind).rest in
        ap (by_section l (body ++ more) rest m) none
        ∙ ap (λ n. last_of l (take n (body ++ more)) (drop n (body ++ more)) rest) count
        ∙ ap₂ (λ taken left. last_of l taken left rest) (take-append_seam body more) (drop-append_seam body more)
        ∙ ap (λ t. let x : FirstTold = record { told = just (text_of_lines (l ∷ body)); behind = t } in x) (lines_give_back behind)

-- nothing stands below it
one_line : (x behind : List ℕ) → lacks 10 x ≡ true → section_said x ≡ None → lines_under x ≡ 0 → IsFirst (line x) behind (just (line x))
one_line x behind whole none count =
    subst (λ t. IsFirst t behind (just t)) (append-nil (line x)) (last_first x [] behind whole refl none count)

-- a text of whole lines stands below it
text_below : (x text behind : List ℕ) → lacks 10 x ≡ true → section_said x ≡ None → lines_under x ≡ line_count text
    → (lines_in text).rest ≡ []
    → IsFirst (line x ++ text) behind (just (line x ++ text))
text_below x text behind whole none count ends =
    let body = (lines_in text).lines in
    let same : text_of_lines body ≡ text = sym (append-nil (text_of_lines body)) ∙ ap (λ r. text_of_lines body ++ r) (sym ends)
    ∙ lines_give_back text in
    subst (λ t. IsFirst (line x ++ t) behind (just (line x ++ t))) same
    (last_first x body behind whole (lines_lack text) none (count ∙ feeds_end_lines text))

-- ---- each line has no line feed

both_lack : (s t : List ℕ) → lacks 10 s ≡ true → lacks 10 t ≡ true → lacks 10 (s ++ t) ≡ true
both_lack s t h k = list_all_both (λ c. not (c == 10)) s t h k

code_lacks_feed : (code : BatchCode) → lacks 10 (code_text code) ≡ true
code_lacks_feed Head = refl
code_lacks_feed Count = refl
code_lacks_feed Fields = refl
code_lacks_feed Time = refl
code_lacks_feed Number = refl
code_lacks_feed Text = refl
code_lacks_feed Tags = refl
code_lacks_feed TooLong = refl

kept_code_lacks_feed : (code : KeptCode) → lacks 10 (kept_code_text code) ≡ true
kept_code_lacks_feed BadHead = refl
kept_code_lacks_feed BadCut = refl
kept_code_lacks_feed NoBatch = refl
kept_code_lacks_feed NotInOrder = refl
kept_code_lacks_feed HasExtra = refl

why_lacks_feed : (refusal : Refusal) → lacks 10 (refusal_text refusal) ≡ true
why_lacks_feed (BadBatch fault) =
    both_lack (code_text fault.code) (with_number (codes " line ") fault.line) (code_lacks_feed fault.code) (decimal_lacks_feed fault.line)
why_lacks_feed (WrongSeq wanted) = decimal_lacks_feed wanted
why_lacks_feed BadTarget = refl
why_lacks_feed Unpriced = refl
why_lacks_feed NoPacket = refl
why_lacks_feed NoNode = refl
why_lacks_feed (NotClosed learned) = decimal_lacks_feed learned
why_lacks_feed (Missing agent seq) =
    both_lack (with_number (codes "G8 agent ") agent) (with_number (codes " seq ") seq) (decimal_lacks_feed agent) (decimal_lacks_feed seq)
why_lacks_feed AllClosed = refl
why_lacks_feed NoBallot = refl
why_lacks_feed WorldFull = refl
why_lacks_feed NoAgent = refl
why_lacks_feed Observer = refl
why_lacks_feed (BadKept fault) =
    both_lack (kept_code_text fault.code) (with_number (codes " line ") fault.line) (kept_code_lacks_feed fault.code)
    (decimal_lacks_feed fault.line)
why_lacks_feed NotKept = refl

process_why_lacks_feed : (why : ProcessRefusal) → lacks 10 (process_refusal_text why) ≡ true
process_why_lacks_feed (OfModel refusal) = why_lacks_feed refusal
process_why_lacks_feed Foreign = refl
process_why_lacks_feed Unfit = refl

learned_lacks_feed : (learned : Option ℕ) → lacks 10 (if_any (codes " learned ") learned) ≡ true
learned_lacks_feed None = refl
learned_lacks_feed (Some p) = decimal_lacks_feed p

-- ---- a file ends in a line feed

rest_of_parts : (ps : List (List ℕ)) → (lines_of_parts (ps ++ [] ∷ [])).rest ≡ []
rest_of_parts [] = refl
rest_of_parts (p ∷ []) = refl
rest_of_parts (p ∷ q ∷ ps) = rest_of_parts (q ∷ ps)

feed_last : (t : List ℕ) → (lines_in (t ++ 10 ∷ [])).rest ≡ []
feed_last t = ap (λ ps. (lines_of_parts ps).rest) (cut_last 10 t [] refl) ∙ rest_of_parts (parts_at 10 t)

rows_end : (front : List ℕ) (rs : List Row) → (t : List ℕ) × (front ++ 10 ∷ flat_map row_text rs ≡ t ++ 10 ∷ [])
rows_end front [] = (front, refl)
rows_end front (r ∷ rs) =
    let row = join_with_byte 44 (map quoted (fields_of_row r)) in
    let later = flat_map row_text rs in
    let more = rows_end (front ++ 10 ∷ row) rs in
    (more.0, ap (λ t. front ++ 10 ∷ t) (append_assoc row (10 ∷ []) later) ∙ sym (append_assoc front (10 ∷ row) (10 ∷ later)) ∙ more.1)

file_ends : (s : Snapshot) → (lines_in (file_of s)).rest ≡ []
file_ends s =
    let end = rows_end header_line (rows s.sheet s.issuer s.batches s.period s.from s.to) in
    ap (λ t. (lines_in t).rest) end.1 ∙ feed_last end.0

-- ---- what it says to stand below

abbrev under_by : Option ℕ → (kept : Option ℕ) → ℕ
under_by o kept = elim o [ Some n ↦ n | None ↦ unwrap_or kept 0 ]

exported_line : (period lines : ℕ) → List ℕ
exported_line period lines = with_number (codes "exported period ") period ++ with_number (codes " lines ") lines

abbrev numbered : Option (List ℕ) → Option ℕ
numbered o = o >>= λ t. behind_word (codes "lines ") t >>= λ number. whole_in 0 1_000_000_000_000_000_000 number

file_counted : (period n : ℕ) → n ≤ 1_000_000_000_000_000_000 → lines_under (exported_line period n) ≡ n
unfolding exported_line
file_counted period n most =
    ap (λ o. under_by (numbered o) None) (past_space (decimal period) (codes "lines " ++ decimal n) (decimal_lacks_blank period))
    ∙ ap (λ o. under_by o None) (whole_written 0 1_000_000_000_000_000_000 n (omega arith) (omega arith) most)

kept_counted : (n : ℕ) → n ≤ 1_000_000_000_000_000_000 → lines_under (with_number (codes "kept lines ") n) ≡ n
kept_counted n most = ap (λ o. unwrap_or o 0) (whole_written 0 1_000_000_000_000_000_000 n (omega arith) (omega arith) most)

words_first : (w : Words) (behind : List ℕ) → CanBeCounted w → IsFirst (words_text w) behind (just (words_text w))
unfolding exported_line
words_first (HasTaken learned) behind can =
    one_line (codes "delivered" ++ if_any (codes " learned ") learned) behind
    (both_lack (codes "delivered") (if_any (codes " learned ") learned) refl (learned_lacks_feed learned)) refl refl
words_first (HasBegun ballot) behind can =
    one_line (with_number (codes "started ballot ") ballot) behind (decimal_lacks_feed ballot) refl refl
words_first (HasJournaled seq) behind can = one_line (with_number (codes "journaled seq ") seq) behind (decimal_lacks_feed seq) refl refl
words_first (HasExported s) behind can =
    let n = line_count (file_of s) in
    text_below (exported_line s.period n) (file_of s) behind
    (both_lack (with_number (codes "exported period ") s.period) (with_number (codes " lines ") n) (decimal_lacks_feed s.period)
    (decimal_lacks_feed n)) refl
    (file_counted s.period n can) (file_ends s)
words_first (KeptIs text) behind can =
    text_below (with_number (codes "kept lines ") (line_count text)) text behind (decimal_lacks_feed (line_count text)) refl
    (kept_counted (line_count text) can.0) can.1
words_first HasSent behind can = one_line (codes "sent") behind refl refl refl
words_first (NodeWentOn period round) behind can =
    one_line (with_number (codes "begun period ") period ++ with_number (codes " round ") round) behind
    (both_lack (with_number (codes "begun period ") period) (with_number (codes " round ") round) (decimal_lacks_feed period)
    (decimal_lacks_feed round)) refl refl
words_first (AgentWentOn seq) behind can = one_line (with_number (codes "begun seq ") seq) behind (decimal_lacks_feed seq) refl refl
words_first (RefusedFor why) behind can =
    one_line (codes "refused " ++ process_refusal_text why) behind (process_why_lacks_feed why) refl refl

-- ---- a section above it

abbrev with_first : Receiver → List ℕ → FirstTold → FirstTold
with_first receiver lines f = record { told = with_lines receiver lines f.told; behind = f.behind }

counted_first : (l : List ℕ) (body : List (List ℕ)) (receiver : Receiver) (text behind : List ℕ) (t : Told) → lacks 10 l ≡ true
    → list_all (lacks 10) body ≡ true
    → section_said l ≡ Some (for_receiver receiver (length body)) → IsFirst text behind t
    → IsFirst (text_of_lines (l ∷ body) ++ text) behind (with_lines receiver (text_of_lines body) t)
counted_first l body receiver text behind t whole all said later m enough =
    let below = text ++ behind in
    let above : lines_in ((text_of_lines (l ∷ body) ++ text) ++ behind)
    ≡ record { lines = (l ∷ body) ++ (lines_in below).lines; rest = (lines_in below).rest } =
    ap lines_in (append_assoc (text_of_lines (l ∷ body)) text behind) ∙ lines_above (l ∷ body) below (and_from _ _ whole all) in
    ap (λ (x : Lines). first_by m x.lines x.rest) above ∙ by_most m (subst (λ (x : Lines). length x.lines ≤ m) above enough)
  where
    by_most : (m : ℕ) → length ((l ∷ body) ++ (lines_in (text ++ behind)).lines) ≤ m
        → first_by m ((l ∷ body) ++ (lines_in (text ++ behind)).lines) (lines_in (text ++ behind)).rest
        ≡ record { told = with_lines receiver (text_of_lines body) t; behind = behind }
    by_most zero enough = absurd (omega (arith, enough))
    by_most (suc m) enough =
        let more = (lines_in (text ++ behind)).lines in
        let rest = (lines_in (text ++ behind)).rest in
        let size = length-append body more in
        ap (by_section l (body ++ more) rest m) said
        ∙ ap₂ (λ taken left. with_first receiver (text_of_lines taken) (first_by m left rest)) (take-append_seam body more)
        (drop-append_seam body more)
        ∙ ap (with_first receiver (text_of_lines body)) (later m (omega (arith, enough, size)))

increment_first : (agents : ℕ) (i : Increment) (text behind : List ℕ) (t : Told) → HasIncrementText agents i → IsFirst text behind t
    → IsFirst (added_text (Some i) ++ text) behind (with_lines ToLog (increment_text i) t)
increment_first agents i text behind t has later =
    let n = lines_of_increment i in
    subst (λ u. IsFirst ((ended (section (codes "kept ") n) ++ u) ++ text) behind (with_lines ToLog u t)) (increment_lines_are_text i)
    (counted_first (section (codes "kept ") n) (lines_of i) ToLog text behind t (section_lacks_feed (codes "kept ") n refl)
    (increment_lacks_feed agents i has) (increment_said agents i has) later)

packet_first : (name : List ℕ) (to : Option ℕ) (p : Packet) (text behind : List ℕ) (t : Told) → HasPacketText name p → IsFirst text behind t
    → IsFirst (packet_sent_text name to p ++ text) behind (with_lines ToNodes (packet_text name p) t)
packet_first name to p text behind t has later =
    let n = lines_of_packet p in
    subst (λ u. IsFirst ((ended (section (send_words to) n) ++ u) ++ text) behind (with_lines ToNodes u t)) (sent_is_lines name p)
    (counted_first (section (send_words to) n) (lines_of_sent name p) ToNodes text behind t (send_lacks_feed to n)
    (sent_lacks_feed name p has) (packet_said name to p has) later)

-- ---- the whole

so_first : (text behind : List ℕ) (t : Told) → IsFirst text behind t → first_told (text ++ behind) ≡ record { told = t; behind = behind }
so_first text behind t is = is (length (lines_in (text ++ behind)).lines) (omega arith)

sends_first : (name : List ℕ) (to : Packet → Option ℕ) (sends : Option Packet) (w : Words) (behind : List ℕ) → MayBeSent name sends
    → CanBeCounted w
    → IsFirst (sent_text name to sends ++ words_text w) behind (record { kept = []; sent = texts_sent name sends; last = words_text w })
sends_first name to None w behind may can = words_first w behind can
sends_first name to (Some p) w behind may can =
    packet_first name (to p) p (words_text w) behind (just (words_text w)) may (words_first w behind can)

pub answer_first : (name : List ℕ) (to : Packet → Option ℕ) (agents : ℕ) (added : Option Increment) (a : Answer) (behind : List ℕ)
    → MayBeAdded agents added → MayBeSent name a.sends → CanBeCounted a.words
    → first_told (answer_text name to added a ++ behind) ≡ record { told = meant name added a; behind = behind }
answer_first name to agents None a behind may sent can =
    so_first (sent_text name to a.sends ++ words_text a.words) behind _ (sends_first name to a.sends a.words behind sent can)
answer_first name to agents (Some i) a behind may sent can =
    let above = added_text (Some i) in
    let below = sent_text name to a.sends in
    ap (λ t. first_told (t ++ behind)) (append_assoc above below (words_text a.words))
    ∙ so_first (above ++ (below ++ words_text a.words)) behind _
    (increment_first agents i (below ++ words_text a.words) behind _ may (sends_first name to a.sends a.words behind sent can))
    ∙ ap (λ t. let x : FirstTold = record {
      told = record { kept = t; sent = texts_sent name a.sends; last = words_text a.words };
      behind = behind;
    } in x) (append-nil (increment_text i))

pub kept_is_whole : (k : KeptAmong) → HasText k → (lines_in (kept_text k)).rest ≡ []
kept_is_whole k has = ap (λ (x : Lines). x.rest) (lines_of_kept_text k (writable_of k has))

-- what is refused as no command, or as no packet, is one line
pub refused_first : (why behind : List ℕ) → lacks 10 why ≡ true
    → first_told (refused_text why ++ behind) ≡ record { told = just (refused_text why); behind = behind }
refused_first why behind whole =
    one_line (codes "refused " ++ why) behind (both_lack (codes "refused ") why refl whole) refl refl
    (length (lines_in (refused_text why ++ behind)).lines) (omega arith)

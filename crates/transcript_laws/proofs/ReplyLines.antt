-- A transcript's lines: one for each reply, and behind that of an export the lines of its file, behind that of a kept text the
-- text's own.
use Rattle.std.proofs.Common.{◌≡◌, ℕ, true, not, List, [], ◌∷◌, ◌++◌, length, flat_map, codes, Option, Some, None, refl, sym, ap, ap₂, ◌∙◌, arith, append-nil, Contains}
use Rattle.std.specs.Prelude.{◌==◌, ◌<◌, ◌^◌, suc}
use Rattle.std.proofs.lemmas.Bool.{and_from}
use Rattle.metering_model.specs.Batch.{lacks}
use Rattle.metering_model.specs.declared.BatchCode.{BatchCode}
use Rattle.metering_model.specs.declared.BatchCode.TheVariants.{Head, Count, Fields, Time, Number, Text, Tags, TooLong}
use Rattle.metering_model.specs.BatchReading.{lines_in}
use Rattle.metering_model.specs.declared.Refusal.{Refusal}
use Rattle.metering_model.specs.declared.Refusal.TheVariants.{BadBatch, WrongSeq, BadTarget, Unpriced, NoPacket, NoNode, NotClosed, Missing, AllClosed, NoBallot, WorldFull, NoAgent, Observer, BadKept, NotKept}
use Rattle.metering_model.specs.declared.KeptCode.{KeptCode}
use Rattle.metering_model.specs.declared.KeptCode.TheVariants.{Head as BadHead, Cut as BadCut, Batch as NoBatch, Order as NotInOrder, Extra as HasExtra}
use Rattle.metering_model.specs.World.{Snapshot, Reply, Journaled, Delivered, Started, Restarted, Exported, KeptText, Refused}
use Rattle.metering_model.specs.Transcript.{line, with_number, code_text, kept_code_text, refusal_text, if_any, file_of, reply_text, transcript, line_count}
use Rattle.metering_model.specs.Schedule.{TextLines, lines_text}
use Rattle.metering_model.proofs.Splitting.{list_all_both}
use Rattle.transcript_laws.specs.Shown.{line_above}
use Rattle.metering_model.proofs.Decimals.{decimal_lacks_feed}
use Rattle.transcript_laws.proofs.TextLaws.{are_whole, lines_append, whole_both, lines_in_whole, is_its_lines, line_count_is}
use Rattle.transcript_laws.proofs.FileLines.{are_plain}

-- ---- the lines of a reply

abbrev pub file_lines : Snapshot → TextLines
file_lines s = (lines_in (file_of s)).lines

-- the reply's own line
abbrev pub own_line : Reply → List ℕ
own_line (Journaled k) = with_number (codes "journaled packet ") k
own_line (Delivered sent learned) = codes "delivered" ++ if_any (codes " sent ") sent ++ if_any (codes " learned ") learned
own_line (Started b k) = with_number (codes "started ballot ") b ++ with_number (codes " packet ") k
own_line Restarted = codes "restarted"
own_line (Exported s) = line_above s.period (length (file_lines s))
own_line (KeptText text) = with_number (codes "kept lines ") (length (lines_in text).lines)
own_line (Refused refusal) = codes "refused " ++ refusal_text refusal

-- and those behind it
abbrev pub lines_behind : Reply → TextLines
lines_behind (Exported s) = file_lines s
lines_behind (KeptText text) = (lines_in text).lines
lines_behind _ = []

abbrev pub reply_lines : Reply → TextLines
reply_lines r = own_line r ∷ lines_behind r

abbrev pub transcript_lines : List Reply → TextLines
transcript_lines replies = flat_map reply_lines replies

-- What is known of an exported file: nothing stands behind its last line feed, no line of it begins as the line above a file
-- does, and its lines are not too many for their number to have a text of its own.
pub record IsFileShown (s : Snapshot) : Type 0 where
  pub ended : (lines_in (file_of s)).rest ≡ []
  pub plain : are_plain (file_lines s) ≡ true
  pub few : length (file_lines s) < 10 ^ 63
  pub period : s.period < 10 ^ 63

-- and of a text that was kept
pub record IsKeptShown (text : List ℕ) : Type 0 where
  pub ended : (lines_in text).rest ≡ []
  pub plain : are_plain (lines_in text).lines ≡ true

pub record AreFilesShown (replies : List Reply) : Type 0 where
  pub files : (s : Snapshot) → Contains replies (Exported s) → IsFileShown s
  pub texts : (text : List ℕ) → Contains replies (KeptText text) → IsKeptShown text

pub contains_later : (r : Reply) (replies : List Reply) (x : Reply) → Contains replies x → Contains (r ∷ replies) x
contains_later r replies x h = let within = h.1 in (suc h.0, omega (arith, within), h.2)

pub later_shown : (r : Reply) (replies : List Reply) → AreFilesShown (r ∷ replies) → AreFilesShown replies
later_shown r replies h = record {
  files = λ s has. h.files s (contains_later r replies (Exported s) has);
  texts = λ text has. h.texts text (contains_later r replies (KeptText text) has);
}

pub first_shown : (s : Snapshot) (replies : List Reply) → AreFilesShown (Exported s ∷ replies) → IsFileShown s
first_shown s replies h = h.files s (0, omega arith, refl)

pub first_text_shown : (text : List ℕ) (replies : List Reply) → AreFilesShown (KeptText text ∷ replies) → IsKeptShown text
first_text_shown text replies h = h.texts text (0, omega arith, refl)

-- ---- no line of a reply holds a line feed

both_lack : (s t : List ℕ) → lacks 10 s ≡ true → lacks 10 t ≡ true → lacks 10 (s ++ t) ≡ true
both_lack s t h k = list_all_both (λ c. not (c == 10)) s t h k

pub above_lacks_feed : (period count : ℕ) → lacks 10 (line_above period count) ≡ true
above_lacks_feed period count =
    both_lack (with_number (codes "exported period ") period) (with_number (codes " lines ") count) (decimal_lacks_feed period) (decimal_lacks_feed count)

code_lacks_feed : (code : BatchCode) → lacks 10 (code_text code) ≡ true
code_lacks_feed Head = refl
code_lacks_feed Count = refl
code_lacks_feed Fields = refl
code_lacks_feed Time = refl
code_lacks_feed Number = refl
code_lacks_feed Text = refl
code_lacks_feed Tags = refl
code_lacks_feed TooLong = refl

kept_code_lacks_feed : (code : KeptCode) → lacks 10 (kept_code_text code) ≡ true
kept_code_lacks_feed BadHead = refl
kept_code_lacks_feed BadCut = refl
kept_code_lacks_feed NoBatch = refl
kept_code_lacks_feed NotInOrder = refl
kept_code_lacks_feed HasExtra = refl

refusal_lacks_feed : (refusal : Refusal) → lacks 10 (refusal_text refusal) ≡ true
refusal_lacks_feed (BadBatch fault) = both_lack (code_text fault.code) (with_number (codes " line ") fault.line) (code_lacks_feed fault.code) (decimal_lacks_feed fault.line)
refusal_lacks_feed (WrongSeq wanted) = decimal_lacks_feed wanted
refusal_lacks_feed BadTarget = refl
refusal_lacks_feed Unpriced = refl
refusal_lacks_feed NoPacket = refl
refusal_lacks_feed NoNode = refl
refusal_lacks_feed (NotClosed learned) = decimal_lacks_feed learned
refusal_lacks_feed (Missing agent seq) =
    both_lack (with_number (codes "G8 agent ") agent) (with_number (codes " seq ") seq) (decimal_lacks_feed agent) (decimal_lacks_feed seq)
refusal_lacks_feed AllClosed = refl
refusal_lacks_feed NoBallot = refl
refusal_lacks_feed WorldFull = refl
refusal_lacks_feed NoAgent = refl
refusal_lacks_feed Observer = refl
refusal_lacks_feed (BadKept fault) =
    both_lack (kept_code_text fault.code) (with_number (codes " line ") fault.line) (kept_code_lacks_feed fault.code) (decimal_lacks_feed fault.line)
refusal_lacks_feed NotKept = refl

sent_lacks_feed : (sent : Option ℕ) → lacks 10 (if_any (codes " sent ") sent) ≡ true
sent_lacks_feed None = refl
sent_lacks_feed (Some k) = decimal_lacks_feed k

learned_lacks_feed : (learned : Option ℕ) → lacks 10 (if_any (codes " learned ") learned) ≡ true
learned_lacks_feed None = refl
learned_lacks_feed (Some p) = decimal_lacks_feed p

own_lacks_feed : (r : Reply) → lacks 10 (own_line r) ≡ true
own_lacks_feed (Journaled k) = decimal_lacks_feed k
own_lacks_feed (Delivered sent learned) = both_lack (codes "delivered" ++ if_any (codes " sent ") sent) (if_any (codes " learned ") learned) (sent_lacks_feed sent) (learned_lacks_feed learned)
own_lacks_feed (Started b k) = both_lack (with_number (codes "started ballot ") b) (with_number (codes " packet ") k) (decimal_lacks_feed b) (decimal_lacks_feed k)
own_lacks_feed Restarted = refl
own_lacks_feed (Exported s) = above_lacks_feed s.period (length (file_lines s))
own_lacks_feed (KeptText text) = decimal_lacks_feed (length (lines_in text).lines)
own_lacks_feed (Refused refusal) = refusal_lacks_feed refusal

behind_whole : (r : Reply) → are_whole (lines_behind r) ≡ true
behind_whole (Journaled k) = refl
behind_whole (Delivered sent learned) = refl
behind_whole (Started b k) = refl
behind_whole Restarted = refl
behind_whole (Exported s) = lines_in_whole (file_of s)
behind_whole (KeptText text) = lines_in_whole text
behind_whole (Refused refusal) = refl

pub lines_are_whole : (replies : List Reply) → are_whole (transcript_lines replies) ≡ true
lines_are_whole [] = refl
lines_are_whole (r ∷ replies) = whole_both (reply_lines r) (transcript_lines replies) (and_from _ _ (own_lacks_feed r) (behind_whole r)) (lines_are_whole replies)

-- ---- the lines make the transcript

pub file_is : (s : Snapshot) → IsFileShown s → file_of s ≡ lines_text (file_lines s)
file_is s h = is_its_lines (file_of s) h.ended

export_is : (s : Snapshot) → IsFileShown s → reply_text (Exported s) ≡ lines_text (reply_lines (Exported s))
export_is s h =
    let counted : line_count (file_of s) ≡ length (file_lines s) = ap line_count (file_is s h) ∙ line_count_is (file_lines s) (lines_in_whole (file_of s)) in
    ap₂ (λ n t. line (line_above s.period n) ++ t) counted (file_is s h)

kept_is : (text : List ℕ) → IsKeptShown text → reply_text (KeptText text) ≡ lines_text (reply_lines (KeptText text))
kept_is text h =
    let lines = (lines_in text).lines in
    let is : text ≡ lines_text lines = is_its_lines text h.ended in
    let counted : line_count text ≡ length lines = ap line_count is ∙ line_count_is lines (lines_in_whole text) in
    ap₂ (λ n t. line (with_number (codes "kept lines ") n) ++ t) counted is

alone : (t : List ℕ) → line t ≡ lines_text (t ∷ [])
alone t = sym (append-nil (line t))

reply_is : (r : Reply) (replies : List Reply) → AreFilesShown (r ∷ replies) → reply_text r ≡ lines_text (reply_lines r)
reply_is (Journaled k) replies h = alone (own_line (Journaled k))
reply_is (Delivered sent learned) replies h = alone (own_line (Delivered sent learned))
reply_is (Started b k) replies h = alone (own_line (Started b k))
reply_is Restarted replies h = alone (own_line Restarted)
reply_is (Exported s) replies h = export_is s (first_shown s replies h)
reply_is (KeptText text) replies h = kept_is text (first_text_shown text replies h)
reply_is (Refused refusal) replies h = alone (own_line (Refused refusal))

pub transcript_is : (replies : List Reply) → AreFilesShown replies → transcript replies ≡ lines_text (transcript_lines replies)
transcript_is [] h = refl
transcript_is (r ∷ replies) h =
    ap₂ ◌++◌ (reply_is r replies h) (transcript_is replies (later_shown r replies h)) ∙ sym (lines_append (reply_lines r) (transcript_lines replies))

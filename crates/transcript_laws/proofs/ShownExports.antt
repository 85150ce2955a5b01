-- What a transcript shows, its exports gave: a line that stands above a file is that of an answered export, and the file is
-- the export's; and each answered export is shown.
use Rattle.std.proofs.Common.{◌≡◌, ℕ, zero, suc, ◌<◌, ◌^◌, true, false, not, List, [], ◌∷◌, ◌++◌, length, drop, codes, decimal, refl, sym, ap, ap₂, ◌∙◌, arith, Some, Contains, append_assoc}
use Rattle.std.specs.Prelude.{slice_get}
use Rattle.std.proofs.lemmas.Bool.{and_parts, and_from, not-true, true≢false}
use Rattle.std.proofs.lemmas.List.Concat.{flat_map-append}
use Rattle.std.proofs.lemmas.Option.{same_Some, none-some}
use Rattle.metering_model.specs.World.{Snapshot, Reply, Journaled, Delivered, Started, Restarted, Exported, KeptText, Refused}
use Rattle.metering_model.specs.Transcript.{with_number, file_of, transcript}
use Rattle.metering_model.specs.Schedule.{TextLines, lines_text}
use Rattle.metering_model.proofs.FirstByte.{before, after, before_join, after_join}
use Rattle.group_laws.proofs.Agreed.{element_of}
use Rattle.transcript_laws.specs.Shown.{line_above, Shows}
use Rattle.metering_model.proofs.Decimals.{decimal_lacks_blank, decimal_is_one}
use Rattle.transcript_laws.proofs.TextLaws.{whole_both, whole_parts, same_lines, lines_in_whole}
use Rattle.transcript_laws.proofs.FileLines.{begins_with_e, are_plain}
use Rattle.transcript_laws.proofs.ReplyLines.{file_lines, own_line, lines_behind, reply_lines, transcript_lines, IsFileShown, AreFilesShown, contains_later, later_shown, first_shown, first_text_shown, above_lacks_feed, lines_are_whole, file_is, transcript_is}

-- ---- the line above a file tells its two numbers

pub same_above : (p m q n : ℕ) → q < 10 ^ 63 → n < 10 ^ 63 → line_above p m ≡ line_above q n → (p ≡ q) × (m ≡ n)
same_above p m q n small few e =
    let numbers : decimal p ++ with_number (codes " lines ") m ≡ decimal q ++ with_number (codes " lines ") n = ap (drop 16) e in
    let periods : decimal p ≡ decimal q =
    sym (before_join 32 (decimal p) (with_number (codes "lines ") m) (decimal_lacks_blank p)) ∙ ap (before 32) numbers
    ∙ before_join 32 (decimal q) (with_number (codes "lines ") n) (decimal_lacks_blank q) in
    let behind : with_number (codes "lines ") m ≡ with_number (codes "lines ") n =
    sym (after_join 32 (decimal p) (with_number (codes "lines ") m) (decimal_lacks_blank p)) ∙ ap (after 32) numbers
    ∙ after_join 32 (decimal q) (with_number (codes "lines ") n) (decimal_lacks_blank q) in
    let counts : decimal m ≡ decimal n = ap (drop 6) behind in
    (decimal_is_one p q small periods, decimal_is_one m n few counts)

-- ---- lists of lines

first_same : (x y : List ℕ) (xs ys : TextLines) → x ∷ xs ≡ y ∷ ys → x ≡ y
first_same x y xs ys e = cc

none_is_some : (before after : TextLines) (x : List ℕ) → [] ≡ before ++ x ∷ after → ⊥
none_is_some [] after x e = cc
none_is_some (b ∷ bs) after x e = cc

-- a front as long as the other is the other
same_front : (xs ys more rest : TextLines) → length xs ≡ length ys → xs ++ more ≡ ys ++ rest → xs ≡ ys
same_front [] [] more rest l e = refl
same_front [] (y ∷ ys) more rest l e = absurd (omega (arith, l))
same_front (x ∷ xs) [] more rest l e = absurd (omega (arith, l))
same_front (x ∷ xs) (y ∷ ys) more rest l e =
    ap₂ ◌∷◌ (first_same x y (xs ++ more) (ys ++ rest) e) (same_front xs ys more rest (omega (arith, l)) (ap (drop 1) e))

-- a line that begins with e stands behind lines of which none does
behind_plain : (front rest before after : TextLines) (x : List ℕ) → are_plain front ≡ true → begins_with_e x ≡ true → front ++ rest ≡ before ++ x ∷ after → (more : TextLines) × (rest ≡ more ++ x ∷ after)
behind_plain [] rest before after x plain is e = (before, e)
behind_plain (f ∷ fs) rest [] after x plain is e =
    let both = and_parts (not (begins_with_e f)) (are_plain fs) plain in
    let same = first_same f x (fs ++ rest) after e in
    absurd (true≢false (sym is ∙ ap begins_with_e (sym same) ∙ not-true _ both.0))
behind_plain (f ∷ fs) rest (b ∷ bs) after x plain is e =
    let both = and_parts (not (begins_with_e f)) (are_plain fs) plain in
    behind_plain fs rest bs after x both.1 is (ap (drop 1) e)

-- ---- the export behind a line

pub record IsOfExport (replies : List Reply) (x : List ℕ) (after : TextLines) : Type 0 where
  pub snapshot : Snapshot
  pub has : Contains replies (Exported snapshot)
  pub rest : TextLines
  pub above : x ≡ line_above snapshot.period (length (file_lines snapshot))
  pub behind : after ≡ file_lines snapshot ++ rest

other_line : (r : Reply) (replies : List Reply) (x : List ℕ) (after : TextLines) → begins_with_e (own_line r) ≡ false → begins_with_e x ≡ true →
    own_line r ∷ lines_behind r ++ transcript_lines replies ≡ x ∷ after → IsOfExport (r ∷ replies) x after
other_line r replies x after other is e =
    let same = first_same (own_line r) x (lines_behind r ++ transcript_lines replies) after e in
    absurd (true≢false (sym is ∙ ap begins_with_e (sym same) ∙ other))

first_line : (r : Reply) (replies : List Reply) (x : List ℕ) (after : TextLines) → begins_with_e x ≡ true →
    own_line r ∷ lines_behind r ++ transcript_lines replies ≡ x ∷ after → IsOfExport (r ∷ replies) x after
first_line (Journaled k) replies x after is e = other_line (Journaled k) replies x after refl is e
first_line (Delivered sent learned) replies x after is e = other_line (Delivered sent learned) replies x after refl is e
first_line (Started b k) replies x after is e = other_line (Started b k) replies x after refl is e
first_line Restarted replies x after is e = other_line Restarted replies x after refl is e
first_line (KeptText text) replies x after is e = other_line (KeptText text) replies x after refl is e
first_line (Refused refusal) replies x after is e = other_line (Refused refusal) replies x after refl is e
first_line (Exported s) replies x after is e = record {
  snapshot = s;
  has = (0, omega arith, refl);
  rest = transcript_lines replies;
  above = sym (first_same (own_line (Exported s)) x (file_lines s ++ transcript_lines replies) after e);
  behind = sym (ap (drop 1) e);
}

behind_is_plain : (r : Reply) (replies : List Reply) → AreFilesShown (r ∷ replies) → are_plain (lines_behind r) ≡ true
behind_is_plain (Journaled k) replies h = refl
behind_is_plain (Delivered sent learned) replies h = refl
behind_is_plain (Started b k) replies h = refl
behind_is_plain Restarted replies h = refl
behind_is_plain (Exported s) replies h = (first_shown s replies h).plain
behind_is_plain (KeptText text) replies h = (first_text_shown text replies h).plain
behind_is_plain (Refused refusal) replies h = refl

pub export_of_line : (replies : List Reply) → AreFilesShown replies → (before after : TextLines) (x : List ℕ) → begins_with_e x ≡ true →
    transcript_lines replies ≡ before ++ x ∷ after → IsOfExport replies x after
export_of_line [] h before after x is e = absurd (none_is_some before after x e)
export_of_line (r ∷ replies) h [] after x is e = first_line r replies x after is e
export_of_line (r ∷ replies) h (b ∷ bs) after x is e =
    let later = behind_plain (lines_behind r) (transcript_lines replies) bs after x (behind_is_plain r replies h) is (ap (drop 1) e) in
    let found = export_of_line replies (later_shown r replies h) later.0 after x is later.1 in
    record { snapshot = found.snapshot; has = contains_later r replies (Exported found.snapshot) found.has; rest = found.rest; above = found.above; behind = found.behind }

-- ---- what is shown is an export's file

pub shown_is_exported : (replies : List Reply) → AreFilesShown replies → (period : ℕ) (shown : List ℕ) → Shows (transcript replies) period shown →
    (s : Snapshot) × Contains replies (Exported s) × (s.period ≡ period) × (shown ≡ file_of s)
shown_is_exported replies h period shown it =
    let x = line_above period (length it.lines) in
    let outer = whole_parts (it.before ++ it.lines) it.after it.whole in
    let inner = whole_parts it.before it.lines outer.0 in
    let behind_whole = whole_both it.lines it.after inner.1 outer.1 in
    let given_whole = whole_both it.before (x ∷ it.lines ++ it.after) inner.0 (and_from _ _ (above_lacks_feed period (length it.lines)) behind_whole) in
    let text = it.is_text ∙ ap lines_text (append_assoc it.before (x ∷ it.lines) it.after) in
    let same = same_lines (transcript_lines replies) (it.before ++ (x ∷ it.lines ++ it.after)) (lines_are_whole replies) given_whole (sym (transcript_is replies h) ∙ text) in
    let found = export_of_line replies h it.before (it.lines ++ it.after) x refl same in
    let s = found.snapshot in
    let known = h.files s found.has in
    let numbers = same_above period (length it.lines) s.period (length (file_lines s)) known.period known.few found.above in
    let lines = same_front it.lines (file_lines s) it.after found.rest numbers.1 found.behind in
    (s, found.has, sym numbers.0, it.is_shown ∙ ap lines_text lines ∙ sym (file_is s known))

-- ---- what is exported is shown

split_at : (replies : List Reply) (k : ℕ) (r : Reply) → slice_get replies k ≡ Some r → (front : List Reply) × (back : List Reply) × (replies ≡ front ++ r ∷ back)
split_at [] k r e = absurd (none-some r e)
split_at (q ∷ replies) zero r e = ([], replies, ap (λ y. y ∷ replies) (same_Some q r e))
split_at (q ∷ replies) (suc k) r e = let rest = split_at replies k r e in (q ∷ rest.0, rest.1, ap (λ rs. q ∷ rs) rest.2)

shown_between : (replies front back : List Reply) (s : Snapshot) → AreFilesShown replies → IsFileShown s → replies ≡ front ++ Exported s ∷ back → Shows (transcript replies) s.period (file_of s)
shown_between replies front back s h known e =
    let before = transcript_lines front in
    let after = transcript_lines back in
    let lines = ap transcript_lines e ∙ (flat_map-append reply_lines front (Exported s ∷ back) ∙ sym (append_assoc before (reply_lines (Exported s)) after)) in
    record {
      before = before;
      lines = file_lines s;
      after = after;
      whole = whole_both (before ++ file_lines s) after (whole_both before (file_lines s) (lines_are_whole front) (lines_in_whole (file_of s))) (lines_are_whole back);
      is_text = transcript_is replies h ∙ ap lines_text lines;
      is_shown = file_is s known;
    }

pub exported_is_shown : (replies : List Reply) → AreFilesShown replies → (s : Snapshot) → Contains replies (Exported s) → Shows (transcript replies) s.period (file_of s)
exported_is_shown replies h s has =
    let at = element_of replies (Exported s) has in
    let parts = split_at replies at.0 (Exported s) at.1 in
    shown_between replies parts.0 parts.1 s h (h.files s has) parts.2

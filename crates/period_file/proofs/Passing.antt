-- Lines that are passed over, and what their prefixes say of them.
use Rattle.std.proofs.Common.{◌≡◌, ◌∙◌, ℕ, ◌+◌, ◌-◌, ◌<◌, ◌≤◌, true, false, List, [], ◌∷◌, ◌++◌, length, take, drop, Option, Some, None, ◌⊎◌, inl, inr, refl, sym, ap, arith, append_assoc, append-nil}
use Rattle.std.specs.Io.KnownBytes.{IsAtEnd}
use Rattle.std.proofs.KnownBytes.{Consumes-trans}
use Rattle.std.proofs.lemmas.Bool.{and_from}
use Rattle.std.proofs.lemmas.Bool.Decides.{nat_tests}
use Rattle.std.proofs.lemmas.List.{length-append, take-append-le}
use Rattle.std.proofs.Math.Seq.{take-append_seam}
use Rattle.metering_model.specs.BatchReading.{is_same, lines_in}
use Rattle.metering_model.specs.Transcript.{line}
use Rattle.metering_model.specs.Schedule.{TextLines, lines_text}
use Rattle.metering_model.proofs.Splitting.{lines_give_back}
use Rattle.transcript_laws.specs.FirstFiles.{NoFile, first_file, first_of_lines, told_behind, words_above}
use Rattle.transcript_laws.proofs.TextLaws.{lines_append, lines_before}
use Rattle.transcript_laws.proofs.FirstFileLaws.{FindsAbove, find_above, first_behind, told_parts}
use Rattle.line_source.specs.Lines.{IsLineAt}
use Rattle.line_source.specs.Reading.{IsEnded, Takes, TakesLine, TakesPart}
use Rattle.line_source.proofs.Taking.{takes_line, takes_on}
use Rattle.period_file.specs.Inner.Reading.{EndsUntold, IsTold, Passes, TakesTold}
use Rattle.period_file.proofs.Seen.{none_seen}

-- ---- what a prefix says

same_itself : (t : List ℕ) → is_same t t ≡ true
same_itself [] = refl
same_itself (c ∷ cs) = and_from _ _ (grind (arith, nat_tests)) (same_itself cs)

-- a line that does not begin with the words tells nothing
pub other_untold : (words b came c text : List ℕ) → length words ≤ length b → is_same (take (length words) b) words ≡ false → b ++ came ≡ line text ++ c → told_behind words text ≡ None
other_untold words b came c text enough other joined = cases (told_behind words text) refl
  where
    cases : (o : Option ℕ) → told_behind words text ≡ o → told_behind words text ≡ None
    cases None told = told
    cases (Some count) told =
        let parts = told_parts words text count told in
        let rest = parts.number ++ (10 ∷ []) in
        let begins : b ++ came ≡ words ++ (rest ++ c) =
        joined ∙ ap (λ t. line t ++ c) parts.joined ∙ ap (λ t. t ++ c) (append_assoc words parts.number (10 ∷ [])) ∙ append_assoc words rest c in
        let prefix : take (length words) b ≡ words =
        sym (take-append-le (length words) b came enough) ∙ ap (take (length words)) begins ∙ take-append_seam words (rest ++ c) in
        let same : is_same (take (length words) b) words ≡ true = ap (λ t. is_same t words) prefix ∙ same_itself words in
        absurd (cc)

-- so does a text with fewer bytes than the words
pub short_untold : (period : ℕ) (text : List ℕ) → length text < length (words_above period) → first_file period text ≡ NoFile
short_untold period text short = cases (find_above period (lines_in text).lines)
  where
    cases : (first_of_lines period (lines_in text).lines ≡ NoFile) ⊎ FindsAbove period (lines_in text).lines → first_file period text ≡ NoFile
    cases (inl none) = none
    cases (inr it) =
        let parts = told_parts (words_above period) it.above it.count it.told in
        let whole = ap length (sym (lines_give_back text)) ∙ length-append (lines_text (lines_in text).lines) (lines_in text).rest in
        let lines = ap (λ (ls : TextLines). length (lines_text ls)) it.is_lines ∙ ap length (lines_append it.before (it.above ∷ it.after)) ∙ length-append (lines_text it.before) (lines_text (it.above ∷ it.after)) in
        let first = length-append (line it.above) (lines_text it.after) in
        let feed = length-append it.above (10 ∷ []) in
        let above = ap length parts.joined ∙ length-append (words_above period) parts.number in
        absurd (omega (arith, short, whole, lines, first, feed, above))

-- ---- a line, and what it tells

module _ {a b : List ℕ} {r s : ℕ} {l m : Option (List ℕ)} (reads : Takes a b r s l m []) where
  -- it ends ahead, and is taken
  pub line_told : {words : List ℕ} {told : Option ℕ} {c : List ℕ} {s' : ℕ} (ends : (end : ℕ) × IsLineAt b end × (c ≡ drop (end + 1) b)) → s' ≡ s
      → IsTold told (told_behind words (take ends.0 b)) → TakesTold words told a c r s' l m
  line_told ends same is_told = record {
    taken = record { text = take ends.0 b; lacks_feed = ends.1.whole; takes = takes_line reads ends same };
    is_told = is_told;
  }

  -- it is passed over
  pub passed_untold : (words : List ℕ) (told : Option ℕ) {c : List ℕ} {t : ℕ} {n : Option (List ℕ)} → length words ≤ length b → is_same (take (length words) b) words ≡ false → TakesLine b c s t m n → told ≡ None
      → TakesTold words told a c r t l n
  passed_untold words None {c} {t} {n} enough other it none = record {
    taken = record { text = it.text; lacks_feed = it.lacks_feed; takes = takes_on reads it.takes };
    is_told = other_untold words b it.takes.came c it.text enough other it.takes.joined;
  }
  passed_untold words (Some count) enough other it none = absurd (cc)

-- less is left than before the line
pub less_left : {words : List ℕ} {told : Option ℕ} {b c : List ℕ} {s t : ℕ} {m n : Option (List ℕ)} → TakesTold words told b c s t m n → t ≤ 4_294_967_296 → 4_294_967_297 - t + length c < 4_294_967_297 - s + length b
less_left {words} {told} {b} {c} {s} {t} {m} {n} it within =
    let line_taken = it.taken in
    let takes = line_taken.takes in
    let joined = sym (length-append b takes.came) ∙ ap length takes.joined ∙ length-append (line line_taken.text) c in
    let feed = length-append line_taken.text (10 ∷ []) in
    let counted = takes.counted in
    omega (arith, joined, feed, counted, within)

-- ---- no line is left

-- all was read, and what was taken and what is ahead has no file
pub all_untold : (period : ℕ) {a b : List ℕ} {r s : ℕ} {l m : Option (List ℕ)} {xs : List ℕ} → Takes a b r s l m xs → IsAtEnd m → first_file period (xs ++ b) ≡ NoFile → EndsUntold period a r s l m
all_untold period it end none = record {
  came = it.came;
  consumed = it.consumed;
  counted = it.counted;
  end = end;
  none = ap (first_file period) it.joined ∙ none;
}

-- a text that has no line feed
pub ended_untold : (period : ℕ) {a b : List ℕ} {r s : ℕ} {l m : Option (List ℕ)} → Takes a b r s l m [] → IsEnded b m → EndsUntold period a r s l m
ended_untold period {a} {b} reads ended = all_untold period reads ended.1 (none_seen period [] b refl refl ended.0)

-- or is too short
pub few_untold : (period : ℕ) {words a b : List ℕ} {r s : ℕ} {l m : Option (List ℕ)} → Takes a b r s l m [] → words ≡ words_above period → length b < length words → IsAtEnd m → EndsUntold period a r s l m
few_untold period {words} {a} {b} reads are few end = all_untold period reads end (short_untold period b (let size = ap length are in omega (arith, few, size)))

-- or is a part of a line that does not end
pub part_untold : (period : ℕ) {b : List ℕ} {s t : ℕ} {m n : Option (List ℕ)} → TakesPart b [] s t m n → IsAtEnd n → EndsUntold period b s t m n
part_untold period it end = all_untold period it.takes end (ap (first_file period) (append-nil it.part) ∙ none_seen period [] it.part refl refl it.lacks_feed)

-- lines were taken before that are no such lines
pub passes_untold : {period : ℕ} {a b : List ℕ} {r s t : ℕ} {l m n : Option (List ℕ)} → Passes period a b r s l m → EndsUntold period b s t m n → EndsUntold period a r t l n
passes_untold {period} {a} {b} {r} {s} {t} {l} {m} {n} it ends = record {
  came = it.takes.came ++ ends.came;
  consumed = Consumes-trans l m n it.takes.came ends.came it.takes.consumed ends.consumed;
  counted = let one = it.takes.counted in let two = ends.counted in omega (arith, one, two, length-append it.takes.came ends.came);
  end = ends.end;
  none =
      ap (first_file period) (sym (append_assoc a it.takes.came ends.came) ∙ ap (λ t. t ++ ends.came) it.takes.joined ∙ append_assoc (lines_text it.lines) b ends.came)
      ∙ ap (first_of_lines period) (lines_before it.lines (b ++ ends.came) it.untold.whole)
      ∙ first_behind period it.lines (lines_in (b ++ ends.came)).lines it.untold.none ∙ ends.none;
}

-- or bytes were read
pub untold_on : {period : ℕ} {a b : List ℕ} {r s t : ℕ} {l m n : Option (List ℕ)} → Takes a b r s l m [] → EndsUntold period b s t m n → EndsUntold period a r t l n
untold_on reads ends = passes_untold (record { lines = []; untold = record { whole = refl; none = refl }; takes = reads }) ends

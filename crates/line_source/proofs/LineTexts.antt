-- Lines that stand in a text: the first one, those at its beginning, and those behind its first bytes.
use Rattle.std.proofs.Common.{◌≡◌, ℕ, ◌+◌, ◌<◌, ◌≤◌, true, List, [], ◌∷◌, ◌++◌, length, take, drop, Option, Some, None, refl, sym, ap, ◌∙◌, arith, append_assoc, append-nil, subst}
use Rattle.std.specs.List.{list_all, position}
use Rattle.std.specs.Prelude.{◌==◌}
use Rattle.std.proofs.lemmas.Bool.{and_parts, and_from}
use Rattle.std.proofs.lemmas.List.{drop-append-le, drop-take, length-append, length-drop, length-take-le, take-append-drop, take-append-le}
use Rattle.std.proofs.lemmas.List.Concat.{flat_map-append}
use Rattle.std.proofs.lemmas.List.Folds.{list_all-append}
use Rattle.std.proofs.Math.Seq.{drop-append_seam, take-add, take-append_seam}
use Rattle.metering_model.specs.Batch.{lacks}
use Rattle.metering_model.specs.BatchReading.{Lines, lines_in, lines_of_parts}
use Rattle.metering_model.specs.Transcript.{line}
use Rattle.metering_model.specs.Schedule.{TextLines, lines_text}
use Rattle.metering_model.proofs.Splitting.{cut_whole, list_all_both, lines_give_back, parts_lack}
use Rattle.byte_text.proofs.LineLemmas.{lines_at_feed}
use Rattle.byte_text.proofs.PastLines.{lines_behind, lines_lack}
use Rattle.byte_text.proofs.SplitLemmas.{split_nowhere}
use Rattle.line_source.specs.Lines.{AreBetween, AreInFront, IsLineAt}
use Rattle.line_source.specs.Reading.{Takes}

-- ---- the first line

pub line_at : (text : List ℕ) (i : ℕ) → position (λ c. c == 10) text ≡ Some i → IsLineAt text i
line_at text i found =
    let feed = lines_at_feed text i found in
    let ls = lines_in (drop (i + 1) text) in
    let parts : lines_text (take i text ∷ ls.lines) ++ ls.rest ≡ text =
    ap (λ (x : Lines). lines_text x.lines ++ x.rest) (sym feed.1) ∙ lines_give_back text in
    let all : list_all (lacks 10) (take i text ∷ ls.lines) ≡ true = ap (λ (x : Lines). list_all (lacks 10) x.lines) (sym feed.1) ∙ lines_lack text in
    record {
      within = feed.0;
      whole = (and_parts (lacks 10 (take i text)) (list_all (lacks 10) ls.lines) all).0;
      split = sym parts ∙ append_assoc (line (take i text)) (lines_text ls.lines) ls.rest ∙ ap (λ t. line (take i text) ++ t) (lines_give_back (drop (i + 1) text));
    }

pub no_line : (text : List ℕ) → position (λ c. c == 10) text ≡ None → lacks 10 text ≡ true
no_line text none =
    let alone : list_all (lacks 10) (text ∷ []) ≡ true = ap (list_all (lacks 10)) (sym (split_nowhere (λ (c : ℕ). c == 10) text 0 none)) ∙ parts_lack 10 text in
    (and_parts (lacks 10 text) true alone).0

-- where the prefix has no line feed, the first line ends behind it
pub line_behind : (text : List ℕ) (n i : ℕ) → n ≤ length text → lacks 10 (take n text) ≡ true → IsLineAt (drop n text) i → IsLineAt text (n + i)
line_behind text n i few prefix it =
    let first = take i (drop n text) in
    let rest = drop (i + 1) (drop n text) in
    let l : List ℕ = take n text ++ first in
    let whole : text ≡ l ++ 10 ∷ rest =
    sym (take-append-drop n text) ∙ ap (λ t. take n text ++ t) (it.split ∙ append_assoc first (10 ∷ []) rest) ∙ sym (append_assoc (take n text) first (10 ∷ rest)) in
    let size : length l ≡ n + i =
    length-append (take n text) first ∙ (let one = length-take-le n text few in let within = it.within in let two = length-take-le i (drop n text) (omega (arith, within)) in omega (arith, one, two)) in
    let is_prefix : take (n + i) text ≡ l = ap (λ t. take (n + i) t) whole ∙ ap (λ k. take k (l ++ 10 ∷ rest)) (sym size) ∙ take-append_seam l (10 ∷ rest) in
    let longer : length (l ++ 10 ∷ []) ≡ n + i + 1 = length-append l (10 ∷ []) ∙ omega (arith, size) in
    let is_rest : drop (n + i + 1) text ≡ rest =
    ap (λ t. drop (n + i + 1) t) (whole ∙ sym (append_assoc l (10 ∷ []) rest)) ∙ ap (λ k. drop k ((l ++ 10 ∷ []) ++ rest)) (sym longer) ∙ drop-append_seam (l ++ 10 ∷ []) rest in
    record {
      within = let within = it.within in let left = length-drop n text in omega (arith, within, left, few);
      whole = ap (lacks 10) is_prefix ∙ list_all_both _ (take n text) first prefix it.whole;
      split = whole ∙ sym (append_assoc l (10 ∷ []) rest) ∙ ap (λ t. line t ++ rest) (sym is_prefix) ∙ ap (λ t. line (take (n + i) text) ++ t) (sym is_rest);
    }

-- ---- lines at the beginning

lines_append : (ls ms : TextLines) → lines_text (ls ++ ms) ≡ lines_text ls ++ lines_text ms
lines_append ls ms = flat_map-append line ls ms

whole_with : (ls : TextLines) (l : List ℕ) → list_all (lacks 10) ls ≡ true → lacks 10 l ≡ true → list_all (lacks 10) (ls ++ l ∷ []) ≡ true
whole_with ls l h k = list_all-append (lacks 10) ls (l ∷ []) ∙ and_from _ _ h (and_from _ _ k refl)

-- with one more line
text_with : (ls : TextLines) (l : List ℕ) → lines_text (ls ++ l ∷ []) ≡ lines_text ls ++ line l
text_with ls l = lines_append ls (l ∷ []) ∙ ap (λ t. lines_text ls ++ t) (append-nil (line l))

pub one_more_in_front : (text : List ℕ) (count at i : ℕ) → AreInFront text count at → IsLineAt (drop at text) i → AreInFront text (count + 1) (at + (i + 1))
one_more_in_front text count at i here next =
    let l = take i (drop at text) in
    let rest = drop (i + 1) (drop at text) in
    let together = text_with here.lines l in
    let whole : text ≡ lines_text (here.lines ++ l ∷ []) ++ rest =
    here.split ∙ ap (λ t. lines_text here.lines ++ t) next.split ∙ sym (append_assoc (lines_text here.lines) (line l) rest) ∙ ap (λ t. t ++ rest) (sym together) in
    let size : length (lines_text (here.lines ++ l ∷ [])) ≡ at + (i + 1) =
    ap length together ∙ length-append (lines_text here.lines) (line l)
    ∙ (let before = here.size in let within = next.within in let one = length-take-le i (drop at text) (omega (arith, within)) in let two = length-append l (10 ∷ []) in omega (arith, before, one, two)) in
    let is_rest : drop (at + (i + 1)) text ≡ rest =
    ap (λ t. drop (at + (i + 1)) t) whole ∙ ap (λ k. drop k (lines_text (here.lines ++ l ∷ []) ++ rest)) (sym size) ∙ drop-append_seam (lines_text (here.lines ++ l ∷ [])) rest in
    record {
      lines = here.lines ++ l ∷ [];
      whole = whole_with here.lines l here.whole next.whole;
      counted = length-append here.lines (l ∷ []) ∙ (let before = here.counted in omega (arith, before));
      within = let within = next.within in let left = length-drop at text in let before = here.within in omega (arith, within, left, before);
      split = whole ∙ ap (λ t. lines_text (here.lines ++ l ∷ []) ++ t) (sym is_rest);
      size = size;
    }

-- ---- lines behind the first bytes

pub none_between : (text : List ℕ) (from : ℕ) → from ≤ length text → AreBetween from from text 0
none_between text from within = record {
  lines = [];
  whole = refl;
  counted = refl;
  ordered = omega arith;
  within = within;
  are_lines = ap (λ k. drop from (take k text)) (omega arith) ∙ drop-take from 0 text;
}

module _ {from end count : ℕ} {text : List ℕ} (it : AreBetween from end text count) where
  -- they stay where more is ahead
  pub between_before : (came : List ℕ) → AreBetween from end (text ++ came) count
  between_before came =
      let within = it.within in
      record {
        lines = it.lines;
        whole = it.whole;
        counted = it.counted;
        ordered = it.ordered;
        within = omega (arith, within, length-append text came);
        are_lines = ap (drop from) (take-append-le end text came within) ∙ it.are_lines;
      }

  -- and where more is read
  pub between_on : {after : List ℕ} {r s : ℕ} {l m : Option (List ℕ)} → Takes text after r s l m [] → AreBetween from end after count
  between_on reads = subst (λ t. AreBetween from end t count) reads.joined (between_before reads.came)

  end_size : length (take end text) ≡ end
  end_size = length-take-le end text it.within

  -- the next one is one more
  pub one_more_between : (i : ℕ) → IsLineAt (drop end text) i → AreBetween from (end + (i + 1)) text (count + 1)
  one_more_between i next =
      let l = take i (drop end text) in
      let ordered = it.ordered in
      let within = next.within in
      let before = it.within in
      let size : length (line l) ≡ i + 1 = length-append l (10 ∷ []) ∙ omega (arith, length-take-le i (drop end text) (omega (arith, within))) in
      let is_next : take (i + 1) (drop end text) ≡ line l =
      ap (λ t. take (i + 1) t) next.split ∙ ap (λ k. take k (line l ++ drop (i + 1) (drop end text))) (sym size) ∙ take-append_seam (line l) (drop (i + 1) (drop end text)) in
      record {
        lines = it.lines ++ l ∷ [];
        whole = whole_with it.lines l it.whole next.whole;
        counted = length-append it.lines (l ∷ []) ∙ (let counted = it.counted in omega (arith, counted));
        ordered = omega (arith, ordered);
        within = omega (arith, within, length-drop end text, before);
        are_lines =
            ap (drop from) (take-add end (i + 1) text ∙ ap (λ t. take end text ++ t) is_next)
            ∙ drop-append-le from (take end text) (line l) (omega (arith, ordered, end_size))
            ∙ ap (λ t. t ++ line l) it.are_lines ∙ sym (text_with it.lines l);
      }

  -- no other line is there
  pub fewer_between : (asked : ℕ) → count < asked → lacks 10 (drop end text) ≡ true → length (lines_in (drop from text)).lines < asked
  fewer_between asked few none_ends =
      let rest = drop end text in
      let ordered = it.ordered in
      let counted = it.counted in
      let behind : drop from text ≡ lines_text it.lines ++ rest =
      ap (drop from) (sym (take-append-drop end text)) ∙ drop-append-le from (take end text) rest (omega (arith, ordered, end_size)) ∙ ap (λ t. t ++ rest) it.are_lines in
      let none : (lines_in rest).lines ≡ [] = ap (λ ps. (lines_of_parts ps).lines) (cut_whole 10 rest none_ends) in
      let all : (lines_in (drop from text)).lines ≡ it.lines =
      ap (λ t. (lines_in t).lines) behind ∙ ap (λ (x : Lines). x.lines) (lines_behind it.lines rest it.whole) ∙ ap (λ ls. it.lines ++ ls) none ∙ append-nil it.lines in
      let size = ap length all in
      omega (arith, size, counted, few)

-- The lines of a text, taken one by one from its front.
use Rattle.std.proofs.Common.{◌≡◌, ℕ, zero, suc, ◌+◌, ◌-◌, ◌<◌, ◌≤◌, ◌==◌, List, [], ◌∷◌, length, take, drop, Some, refl, sym, ap, ap₂, ◌∙◌, arith, length-drop, length-take}
use Rattle.std.specs.Prelude.{slice_range}
use Rattle.std.specs.List.{position, slice_get}
use Rattle.std.proofs.lemmas.List.{drop-drop}
use Rattle.metering_model.specs.BatchReading.{lines_in, with_line}
use Rattle.batch_view.specs.Batches.{line_spans}
use Rattle.batch_view.specs.Inner.Lines.{IsFirstLine, IsBehindLines, lines_from}
use Rattle.record_view.specs.declared.fields.Span.{Span}
use Rattle.record_view.proofs.LineLemmas.{lines_at_feed}

-- the same in the middle of a text
pub first_line : (text : List ℕ) (from i : ℕ) → position (λ c. c == 10) (drop from text) ≡ Some i → from ≤ length text → IsFirstLine text from (record { from = from; to = from + i })
first_line text from i found within =
    let feed = lines_at_feed (drop from text) i found in
    let shorter : i < length text - from = omega (arith, feed.0, length-drop from text) in
    let behind : drop (i + 1) (drop from text) ≡ drop (from + i + 1) text = drop-drop (i + 1) from text ∙ ap (λ n. drop n text) (omega arith) in
    record {
      begins = refl;
      ordered = omega arith;
      within = omega arith;
      lines = feed.1 ∙ ap₂ (λ n t. with_line (take n (drop from text)) (lines_in t)) (omega arith) behind;
    }

-- ---- reading stands behind so many lines

pub behind_none : (text : List ℕ) → IsBehindLines text 0 0
behind_none text = record { within = omega arith; lines = refl; rest = refl; spans = refl }

-- the first line of a list of lines, and where the others begin
at_drop : {A : Type 0} (n : ℕ) (xs : List A) (y : A) (ys : List A) → drop n xs ≡ y ∷ ys → (slice_get xs n ≡ Some y) × (drop (n + 1) xs ≡ ys)
at_drop zero [] y ys e = absurd (omega (arith, ap length e))
at_drop zero (x ∷ xs) y ys e = (ap (λ l. slice_get l 0) e, ap (drop 1) e)
at_drop (suc n) [] y ys e = absurd (omega (arith, ap length e))
at_drop (suc n) (x ∷ xs) y ys e =
    let rest = at_drop n xs y ys e in
    let next : suc n + 1 ≡ suc (n + 1) = omega arith in
    (rest.0, ap (λ m. drop m (x ∷ xs)) next ∙ rest.1)

-- What one more line is: the line at that index, and where it stands.
pub record NextLine (text : List ℕ) (count : ℕ) (line : Span) : Type 0 where
  pub is_line : slice_get (lines_in text).lines count ≡ Some (slice_range text line.from line.to)
  pub spot : slice_get (line_spans 0 (lines_in text).lines) count ≡ Some line
  pub left : drop count (lines_in text).lines ≡ slice_range text line.from line.to ∷ drop (count + 1) (lines_in text).lines
  pub behind : IsBehindLines text (count + 1) (line.to + 1)

line_length : (text : List ℕ) (from to : ℕ) → from ≤ to → to < length text → length (slice_range text from to) ≡ to - from
line_length text from to ordered within = omega (arith, length-take (to - from) (drop from text), length-drop from text)

pub one_more_line : (text : List ℕ) (count at : ℕ) (line : Span) → IsBehindLines text count at → IsFirstLine text at line → NextLine text count line
one_more_line text count at line here first =
    let l = slice_range text line.from line.to in
    let all = (lines_in text).lines in
    let now : drop count all ≡ l ∷ (lines_from text (line.to + 1)).lines = sym here.lines ∙ ap (λ ls. ls.lines) first.lines in
    let next = at_drop count all l (lines_from text (line.to + 1)).lines now in
    let long = line_length text line.from line.to first.ordered first.within in
    let spans : drop count (line_spans 0 all) ≡ record { from = at; to = at + length l } ∷ line_spans (at + length l + 1) (lines_from text (line.to + 1)).lines = sym here.spans ∙ ap (line_spans at) now in
    let spot = at_drop count (line_spans 0 all) _ _ spans in
    let end : at + length l ≡ line.to = omega (arith, long, first.begins, first.ordered) in
    record {
      is_line = next.0;
      spot = spot.0 ∙ ap₂ (λ x y. Some (record { from = x; to = y })) (sym first.begins) end;
      left = now ∙ ap (λ ls. l ∷ ls) (sym next.1);
      behind = record {
        within = omega (arith, first.within);
        lines = sym next.1;
        rest = sym (ap (λ ls. ls.rest) first.lines) ∙ here.rest;
        spans = ap₂ line_spans (ap (λ n. n + 1) (sym end)) next.1 ∙ sym spot.1;
      };
    }

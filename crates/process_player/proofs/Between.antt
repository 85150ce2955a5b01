-- Whole lines that stand between two places of a text.
use Rattle.std.proofs.Common.{◌≡◌, ℕ, ◌+◌, ◌-◌, ◌≤◌, List, [], ◌∷◌, length, take, drop, sym, ap, ◌∙◌, arith, append-nil}
use Rattle.std.proofs.lemmas.List.{length-append, length-drop, length-take-le, take-take}
use Rattle.std.proofs.Math.Seq.{take-append_seam}
use Rattle.metering_model.specs.BatchReading.{Lines, lines_in}
use Rattle.metering_model.specs.Transcript.{line}
use Rattle.metering_model.specs.Schedule.{TextLines, lines_text}
use Rattle.byte_text.proofs.PastLines.{lines_behind}
use Rattle.line_source.specs.Lines.{AreBetween}

-- each line has its line feed
lines_long : (ls : TextLines) → length ls ≤ length (lines_text ls)
lines_long [] = omega arith
lines_long (l ∷ ls) = omega (arith, lines_long ls, length-append (line l) (lines_text ls), length-append l (10 ∷ []))

module _ {from end count : ℕ} {text : List ℕ} (it : AreBetween from end text count) where
  pub between_long : from + count ≤ end
  between_long =
      let ordered = it.ordered in
      let counted = it.counted in
      let size = length-take-le end text it.within in
      let left = length-drop from (take end text) in
      let lines = ap length it.are_lines in
      let long = lines_long it.lines in
      omega (arith, ordered, counted, size, left, lines, long)

  -- they are lines of what stands there, and all of these
  pub between_counted : length (lines_in (drop from (take end text))).lines ≡ count
  between_counted =
      ap (λ t. length (lines_in t).lines) (it.are_lines ∙ sym (append-nil (lines_text it.lines)))
      ∙ ap (λ (x : Lines). length x.lines) (lines_behind it.lines [] it.whole)
      ∙ ap length (append-nil it.lines)
      ∙ it.counted

one_of : (ls : TextLines) → length ls ≡ 1 → (l : List ℕ) × (lines_text ls ≡ line l)
one_of [] h = absurd (omega (arith, h))
one_of (l ∷ []) h = (l, append-nil (line l))
one_of (l ∷ m ∷ ls) h = absurd (omega (arith, h))

-- one that stands first, and what it is without its line feed
pub first_whole : {end : ℕ} {text : List ℕ} → AreBetween 0 end text 1 → take end text ≡ line (take (end - 1) text)
first_whole {end} {text} it =
    let a = one_of it.lines it.counted in
    let is : take end text ≡ line a.0 = it.are_lines ∙ a.1 in
    let size : end ≡ length a.0 + 1 = sym (length-take-le end text it.within) ∙ ap length is ∙ length-append a.0 (10 ∷ []) in
    let front : take (end - 1) text ≡ a.0 =
    sym (take-take (end - 1) end text (omega arith)) ∙ ap (take (end - 1)) is ∙ ap (λ k. take k (line a.0)) (omega (arith, size)) ∙ take-append_seam a.0 (10 ∷ []) in
    is ∙ ap line (sym front)

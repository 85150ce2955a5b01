-- The first line of a text, and what stands behind it.
use Rattle.std.proofs.Common.{◌≡◌, ℕ, ◌+◌, ◌<◌, ◌==◌, List, [], ◌∷◌, length, take, drop, Some, None, refl, ap, ◌∙◌, arith}
use Rattle.std.specs.List.{slice_split, position}
use Rattle.std.proofs.lemmas.List.Splits.{length-slice_split}
use Rattle.metering_model.specs.BatchReading.{lines_in, lines_of_parts, with_line}
use Rattle.byte_text.proofs.SplitLemmas.{split_at, split_nowhere}

pub first_of_parts : (part : List ℕ) (parts : List (List ℕ)) → 0 < length parts → lines_of_parts (part ∷ parts) ≡ with_line part (lines_of_parts parts)
first_of_parts part [] some = absurd (omega arith)
first_of_parts part (next ∷ parts) some = refl

-- the first line feed ends the first line
pub lines_at_feed : (text : List ℕ) (i : ℕ) → position (λ c. c == 10) text ≡ Some i → (i < length text) × (lines_in text ≡ with_line (take i text) (lines_in (drop (i + 1) text)))
lines_at_feed text i found =
    let split = split_at (λ (c : ℕ). c == 10) text i 0 found in
    let left = slice_split (λ (c : ℕ). c == 10) (drop (i + 1) text) in
    let some : 0 < length left = omega (arith, length-slice_split (λ (c : ℕ). c == 10) (drop (i + 1) text)) in
    (split.0, ap lines_of_parts split.1 ∙ first_of_parts (take i text) left some)

-- without a line feed there is no line
pub lines_without_feed : (text : List ℕ) → position (λ c. c == 10) text ≡ None → lines_in text ≡ record { lines = []; rest = text }
lines_without_feed text none = ap lines_of_parts (split_nowhere (λ (c : ℕ). c == 10) text 0 none)

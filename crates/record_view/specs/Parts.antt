-- Texts that a batch lends, each with its place, and the parts into which a byte splits one.
use Rattle.std.specs.Prelude.{◌≡◌, ℕ, ◌+◌, ◌≤◌, ◌==◌, List, [], ◌∷◌, length, slice_range}
use Rattle.std.specs.List.{slice_split, position_or_len, before_first, after_first}
use Rattle.record_view.specs.declared.fields.Field.{Field}

-- a text, and where it stands in the bytes that it was taken from
pub record LentText : Type 0 where
  pub text : List ℕ
  pub from : ℕ
  pub to : ℕ

-- a field without where it lies in memory
abbrev pub lent : Field → LentText
lent f = record { text = f.text.now; from = f.span.from; to = f.span.to }

-- The text is the source at its span.
pub record IsLent (source : List ℕ) (t : LentText) : Type 0 where
  pub ordered : t.from ≤ t.to
  pub within : t.to ≤ length source
  pub text : t.text ≡ slice_range source t.from t.to

-- Each text is the source at its span, from the one place to the other, and ends before the next begins.
abbrev pub AreLentApart : List ℕ → ℕ → ℕ → List LentText → Type 0
AreLentApart source from to [] = Unit {0}
AreLentApart source from to (t ∷ ts) =
    IsLent source t × (from ≤ t.from) × (t.to ≤ to) × AreLentApart source (t.to + 1) to ts

-- ---- the first part, and the rest

-- what stands before the first such byte
abbrev pub part_before : ℕ → LentText → LentText
part_before byte t = record {
  text = before_first (λ c. c == byte) t.text;
  from = t.from;
  to = t.from + position_or_len (λ c. c == byte) t.text;
}

-- what stands behind it
abbrev pub part_after : ℕ → LentText → LentText
part_after byte t = record {
  text = after_first (λ c. c == byte) t.text;
  from = t.from + position_or_len (λ c. c == byte) t.text + 1;
  to = t.to;
}

-- ---- all parts

-- The texts in their places: each begins where those before it end, and one byte behind each of them.
abbrev pub placed_from : ℕ → List (List ℕ) → List LentText
placed_from from [] = []
placed_from from (t ∷ ts) = record { text = t; from = from; to = from + length t } ∷ placed_from (from + length t + 1) ts

-- the parts between such bytes, from left to right
unfoldable pub parts_at : ℕ → LentText → List LentText
parts_at byte t = placed_from t.from (slice_split (λ c. c == byte) t.text)

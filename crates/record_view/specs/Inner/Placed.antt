-- Texts whose places fit them.
use Rattle.std.specs.Prelude.{◌≡◌, ℕ, ◌+◌, List, length, take, drop, map}
use Rattle.record_view.specs.Parts.{LentText}

-- The text is as long as its place.
pub record IsPlaced (t : LentText) : Type 0 where
  pub fits : t.to ≡ t.from + length t.text

-- the texts without their places
abbrev pub texts_of : List LentText → List (List ℕ)
texts_of ts = map (λ t. t.text) ts

-- what stands before the byte at a place of a text, and what stands behind it
abbrev pub front_of : ℕ → LentText → LentText
front_of at t = record { text = take at t.text; from = t.from; to = t.from + at }

abbrev pub back_of : ℕ → LentText → LentText
back_of at t = record { text = drop (at + 1) t.text; from = t.from + at + 1; to = t.to }

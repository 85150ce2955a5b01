-- The tags that a text holds, each with its place.
use Rattle.std.specs.Prelude.{ℕ, List, [], ◌∷◌, map}
use Rattle.metering_model.specs.Batch.{Tag}
use Rattle.record_view.specs.Parts.{LentText, part_before, part_after, parts_at}

pub record LentTag : Type 0 where
  pub key : LentText
  pub value : LentText

-- the model's tag, without places
abbrev pub tag_of : LentTag → Tag
tag_of t = record { key = t.key.text; value = t.value.text }

-- a key and a value: what stands before the first `=`, and what stands behind it
abbrev pub lent_tag : LentText → LentTag
lent_tag t = record { key = part_before 61 t; value = part_after 61 t }

abbrev pub unless_empty : List ℕ → List LentTag → List LentTag
unless_empty [] ts = []
unless_empty (c ∷ cs) ts = ts

-- none in the empty text, or those between `;`
unfoldable pub tags_at : LentText → List LentTag
tags_at t = unless_empty t.text (map lent_tag (parts_at 59 t))

-- Tags, part by part.
use Rattle.std.specs.Prelude.{◌≡◌, ℕ, ◌==◌, Bool, true, false, List, [], ◌∷◌, Option, Some, None, is_some, if◌then◌else◌}
use Rattle.std.specs.List.{list_any}
use Rattle.std.specs.Option.{option_map}
use Rattle.metering_model.specs.Batch.{is_below}
use Rattle.metering_model.specs.BatchReading.{tag_in, tags_in}
use Rattle.record_view.specs.Parts.{LentText}
use Rattle.record_view.specs.TagTexts.{lent_tag, tags_at}

-- whether the text is tags
unfoldable pub are_tags : List ℕ → Bool
are_tags t = is_some (tags_in t)

abbrev pub key_in : List ℕ → Option (List ℕ)
key_in t = option_map (λ tag. tag.key) (tag_in t)

-- a key, if there is one and it is above the last one
abbrev pub if_above : List ℕ → Option (List ℕ) → Option (List ℕ)
if_above last None = None
if_above last (Some key) = if is_below last key then Some key else None

-- whether each text is a tag, and their keys rise from above the last one
abbrev pub rise_from : Option (List ℕ) → List LentText → Bool
rise_from None ts = false
rise_from (Some last) [] = true
rise_from (Some last) (t ∷ ts) = rise_from (if_above last (key_in t.text)) ts

-- what the first part of tags is, and what stands behind it
pub record IsFirstPart (t part rest : LentText) : Type 0 where
  pub has_equals : list_any (λ c. c == 61) part.text ≡ true
  pub others : are_tags rest.text ≡ true
  pub tags : tags_at t ≡ lent_tag part ∷ tags_at rest

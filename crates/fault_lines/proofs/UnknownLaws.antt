-- What is told of unknown keys, case by case.
use Rattle.std.proofs.Common.{◌≡◌, ℕ, ◌+◌, ◌≤◌, Bool, true, false, not, cond, List, [], ◌∷◌, ◌++◌, length, take, filter, Option, None, refl, sym, ap, ◌∙◌, arith, append_assoc, append-nil}
use Rattle.std.specs.List.{flat_map}
use Rattle.std.specs.Str.{IsUtf8, is_utf8}
use Rattle.std.proofs.lemmas.Str.{IsUtf8-from_is_utf8, is_utf8-from_IsUtf8}
use Rattle.toml.specs.Data.{Members}
use Rattle.toml.specs.Parse.{parse_document}
use Rattle.metering_model.specs.BatchReading.{lines_in}
use Rattle.metering_model.specs.Schedule.{lines_text}
use Rattle.metering_model.specs.Transcript.{line_count}
use Rattle.byte_text.proofs.LineFeeds.{in_parts}
use Rattle.input_sections.proofs.CountedLines.{front_counts}
use Rattle.fault_lines.specs.UnknownKeys.{UnknownKey, has_key, keys_left, table_below, told_along, told_of_document, told_of_keys, told_of_section, told_unknown}

-- ---- no keys

none_left : (table : List ℕ) (lines : List (List ℕ)) → keys_left table [] lines ≡ []
unfolding keys_left
none_left table [] = refl
none_left table (line ∷ lines) = none_left (table_below table line) lines

none_along : (n : ℕ) (table : List ℕ) (lines : List (List ℕ)) → told_along n table [] lines ≡ []
unfolding told_along
none_along n table [] = refl
none_along n table (line ∷ lines) = none_along (n + 1) (table_below table line) lines

pub none_told : (n : ℕ) (lines : List (List ℕ)) → told_of_keys n lines [] ≡ []
none_told n lines = rw (none_left [] lines, none_along (n + 1) [] lines) refl

-- ---- a section

module _ (unknown : Members → List UnknownKey) (n : ℕ) (text : List ℕ) where
  pub of_utf8 : (o : Option Members) → IsUtf8 text → parse_document text ≡ o → told_of_section unknown n text ≡ told_of_document unknown n text o
  unfolding told_of_section
  of_utf8 o utf8 is = ap (λ b. cond b (told_of_document unknown n text (parse_document text)) []) (is_utf8-from_IsUtf8 text utf8) ∙ ap (told_of_document unknown n text) is

  pub of_none : (IsUtf8 text → parse_document text ≡ None) → told_of_section unknown n text ≡ []
  unfolding told_of_section
  of_none none = by_test (is_utf8 text) refl
    where
      by_test : (b : Bool) → is_utf8 text ≡ b → cond b (told_of_document unknown n text (parse_document text)) [] ≡ []
      by_test true e = ap (told_of_document unknown n text) (none (IsUtf8-from_is_utf8 text e))
      by_test false e = refl

-- ---- one line after another

-- a text has a line feed for each of its lines
pub lines_fit : (text : List ℕ) → length (lines_in text).lines ≤ line_count text
lines_fit text =
    let ls = (lines_in text).lines in
    let k = length (lines_text (take (length ls) ls)) in
    omega (arith, front_counts (length ls) text (omega arith), in_parts k text)

pub is_none : {X : Type 0} (ls : List X) → length ls ≤ 0 → ls ≡ []
is_none [] low = refl
is_none (l ∷ ls) low = absurd (omega (arith, low))

module _ (start told told' table below : List ℕ) (n n' : ℕ) (ks ks' : List UnknownKey) (rest : List (List ℕ)) where
  pub along_goes_on : (line : List ℕ) (lines : List (List ℕ)) → start ≡ told ++ told_along n table ks rest → rest ≡ line ∷ lines
      → told' ≡ told ++ flat_map (told_unknown n) (filter (has_key table line) ks) → ks' ≡ filter (λ k. not (has_key table line k)) ks → below ≡ table_below table line
      → n' ≡ n + 1 → start ≡ told' ++ told_along n' below ks' lines
  unfolding told_along
  along_goes_on line lines is rest_is told_is ks_is below_is next =
      let left = filter (λ k. not (has_key table line k)) ks in
      let behind = told_along (n + 1) (table_below table line) left lines in
      is
      ∙ (ap (λ ls. told ++ told_along n table ks ls) rest_is
      ∙ (sym (append_assoc told (flat_map (told_unknown n) (filter (has_key table line) ks)) behind)
      ∙ (ap (λ t. t ++ behind) (sym told_is)
      ∙ (ap (λ m. told' ++ told_along m (table_below table line) left lines) (sym next)
      ∙ (ap (λ b. told' ++ told_along n' b left lines) (sym below_is) ∙ ap (λ k. told' ++ told_along n' below k lines) (sym ks_is))))))

  pub left_goes_on : (line : List ℕ) (lines : List (List ℕ)) (all : List UnknownKey) → all ≡ keys_left table ks rest → rest ≡ line ∷ lines
      → ks' ≡ filter (λ k. not (has_key table line k)) ks → below ≡ table_below table line → all ≡ keys_left below ks' lines
  unfolding keys_left
  left_goes_on line lines all is rest_is ks_is below_is =
      is
      ∙ (ap (keys_left table ks) rest_is
      ∙ (ap (λ b. keys_left b (filter (λ k. not (has_key table line k)) ks) lines) (sym below_is) ∙ ap (λ k. keys_left below k lines) (sym ks_is)))

  pub along_ends : start ≡ told ++ told_along n table ks rest → rest ≡ [] → told ≡ start
  unfolding told_along
  along_ends is none = sym (is ∙ (ap (λ ls. told ++ told_along n table ks ls) none ∙ append-nil told))

  pub left_ends : (all : List UnknownKey) → all ≡ keys_left table ks rest → rest ≡ [] → ks ≡ all
  unfolding keys_left
  left_ends all is none = sym (is ∙ ap (keys_left table ks) none)

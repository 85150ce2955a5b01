-- What `serde_json` writes of a string without control characters, in the words of the file.
use Rattle.std.proofs.Common.{◌≡◌, ℕ, ◌<◌, ◌==◌, ◌||◌, ◌&&◌, true, false, List, [], ◌∷◌, ◌++◌, length, get_or, map, refl, sym, ap, ap₂, ◌∙◌, arith}
use Rattle.std.specs.Prelude.{All, if◌then◌else◌}
use Rattle.std.specs.List.{list_all}
use Rattle.std.specs.Str.{IsUtf8}
use Rattle.std.proofs.lemmas.Bool.{and_parts}
use Rattle.std.proofs.lemmas.Bool.Decides.{nat_tests}
use Rattle.std.proofs.lemmas.List.Folds.{list_all_at}
use Rattle.std.proofs.lemmas.Str.{IsUtf8-from_ascii}
use Rattle.std.proofs.lemmas.Str.Ascii.{IsAscii-from_all}
use Rattle.json.specs.Print as json
use Rattle.serde_json.specs.Data as Data
use Rattle.serde_json.specs.View.{view}
use Rattle.serde_json.specs.Written.{compact_text, has_float}
use Rattle.serde_json.specs.declared.value.Value.{Value}
use Rattle.metering_model.specs.Batch.{is_text, is_text_byte, keys_rise}
use Rattle.metering_model.specs.File.{json_string, marked}
use Rattle.record_view.specs.declared.tags.Tags.{Tags}
use Rattle.record_view.specs.Lent.{lent_tags}
use Rattle.record_view.specs.TagTexts.{LentTag, tag_of}
use Rattle.record_view.proofs.TagsHold.{has_texts, tags_hold}

byte_is_small : (c : ℕ) → is_text_byte c ≡ true → c < 128
byte_is_small c h = grind (arith, nat_tests)

bytes_are_small : (t : List ℕ) → is_text t ≡ true → All (λ c. c < 128) t
bytes_are_small t h = λ k d within. byte_is_small _ (passes k d within)
  where
    passes : (k : ℕ) (d : ℕ) → k < length t → is_text_byte (get_or t k d) ≡ true
    passes k d within = grind (arith, list_all_at is_text_byte)

pub text_is_utf8 : (t : List ℕ) → is_text t ≡ true → IsUtf8 t
text_is_utf8 t h = IsUtf8-from_ascii t (IsAscii-from_all t (bytes_are_small t h))

byte_escaped : (c : ℕ) → is_text_byte c ≡ true → json.escape_byte c ≡ (if (c == 34) || (c == 92) then 92 ∷ c ∷ [] else c ∷ [])
unfolding json.escape_byte
byte_escaped c h = grind (arith, nat_tests)

inner_escaped : (t : List ℕ) → is_text t ≡ true → json.escape t ≡ marked (λ c. (c == 34) || (c == 92)) 92 t
inner_escaped [] h = refl
inner_escaped (c ∷ cs) h =
    let parts = and_parts (is_text_byte c) (is_text cs) h in
    ap₂ ◌++◌ (byte_escaped c parts.0) (inner_escaped cs parts.1)

pub string_written : (t : List ℕ) → is_text t ≡ true → json.quoted t ≡ json_string t
string_written t h = ap (λ x. 34 ∷ (x ++ 34 ∷ [])) (inner_escaped t h)

-- the text of a value that is a string
pub value_written : (v : Value) (t written : List ℕ) → view v ≡ Data.string t → (has_float (view v) ≡ false → written ≡ compact_text (view v))
    → written ≡ json.quoted t
value_written v t written is h = h (ap has_float is) ∙ ap compact_text is

-- each key and each value is a text
pub next_texts : (t : Tags) (g : LentTag) (gs : List LentTag) → lent_tags t ≡ g ∷ gs → (is_text g.key.text ≡ true) × (is_text g.value.text ≡ true)
next_texts t g gs is =
    let all = and_parts _ _ (sym (ap (λ ts. list_all has_texts (map tag_of ts) && keys_rise (map tag_of ts)) is) ∙ tags_hold t) in
    and_parts (is_text g.key.text) (is_text g.value.text) (and_parts (has_texts (tag_of g)) (list_all has_texts (map tag_of gs)) all.0).0

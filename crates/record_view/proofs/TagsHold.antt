-- Tags are texts, and their keys rise. (That none has a `|` is a fact of the records that lend them.)
use Rattle.std.proofs.Common.{◌≡◌, ℕ, ◌==◌, Bool, true, not, ◌&&◌, List, [], ◌∷◌, ◌++◌, map, Option, Some, None, refl, sym, ap, subst, ◌∙◌}
use Rattle.std.specs.List.{list_any, list_all, before_first, after_first, slice_split}
use Rattle.std.proofs.lemmas.Bool.{and_parts, and_from}
use Rattle.std.proofs.lemmas.Option.{cond_some, same_Some, none-some}
use Rattle.metering_model.specs.Batch.{Tag, is_text, is_text_byte, is_empty, keys_rise}
use Rattle.metering_model.specs.BatchReading.{is_equals_sign, tag_in, tags_in, with_first, all_some, if_rising}
use Rattle.metering_model.proofs.FirstByte.{split_back}
use Rattle.metering_model.proofs.Splitting.{list_all_left, list_all_right}
use Rattle.record_view.specs.declared.tags.Tags.{Tags}
use Rattle.record_view.specs.Parts.{lent}
use Rattle.record_view.specs.TagTexts.{tag_of}
use Rattle.record_view.specs.Lent.{lent_tags}
use Rattle.record_view.proofs.TagLaws.{tags_read}

-- whether the key and the value are texts
abbrev pub has_texts : Tag → Bool
has_texts g = is_text g.key && is_text g.value

abbrev halves : List ℕ → Tag
halves t = record { key = before_first is_equals_sign t; value = after_first is_equals_sign t }

-- the halves of a text are texts
halves_are_texts : (t : List ℕ) → is_text t ≡ true → list_any is_equals_sign t ≡ true → has_texts (halves t) ≡ true
halves_are_texts t text found =
    let key = before_first is_equals_sign t in
    let value = after_first is_equals_sign t in
    let joined : list_all is_text_byte (key ++ 61 ∷ value) ≡ true = sym (ap (list_all is_text_byte) (split_back 61 t found)) ∙ text in
    and_from _ _ (list_all_left is_text_byte key (61 ∷ value) joined)
    (and_parts (is_text_byte 61) (is_text value) (list_all_right is_text_byte key (61 ∷ value) joined)).1

one_has_texts : (t : List ℕ) (g : Tag) → tag_in t ≡ Some g → has_texts g ≡ true
one_has_texts t g h =
    let found = cond_some (is_text t && list_any is_equals_sign t && not (is_empty (before_first is_equals_sign t))) (halves t) g h in
    let tests = and_parts (is_text t && list_any is_equals_sign t) (not (is_empty (before_first is_equals_sign t))) found.0 in
    let first = and_parts (is_text t) (list_any is_equals_sign t) tests.0 in
    subst (λ (x : Tag). has_texts x ≡ true) found.1 (halves_are_texts t first.0 first.1)

all_have_texts : (ps : List (List ℕ)) (ts : List Tag) → all_some (map tag_in ps) ≡ Some ts → list_all has_texts ts ≡ true
all_have_texts [] ts h = subst (λ (x : List Tag). list_all has_texts x ≡ true) (same_Some [] ts h) refl
all_have_texts (p ∷ ps) ts h = by_first (tag_in p) (all_some (map tag_in ps)) (one_has_texts p) (all_have_texts ps) h
  where
    by_first : (o : Option Tag) (os : Option (List Tag)) → ((g : Tag) → o ≡ Some g → has_texts g ≡ true)
        → ((gs : List Tag) → os ≡ Some gs → list_all has_texts gs ≡ true) → with_first o os ≡ Some ts → list_all has_texts ts ≡ true
    by_first None os one others e = absurd (none-some ts e)
    by_first (Some g) None one others e = absurd (none-some ts e)
    by_first (Some g) (Some gs) one others e =
        subst (λ (x : List Tag). list_all has_texts x ≡ true) (same_Some (g ∷ gs) ts e) (and_from _ _ (one g refl) (others gs refl))

rising_hold : (o : Option (List Tag)) (ts : List Tag) → ((gs : List Tag) → o ≡ Some gs → list_all has_texts gs ≡ true)
    → if_rising o ≡ Some ts → (list_all has_texts ts && keys_rise ts) ≡ true
rising_hold None ts all h = absurd (none-some ts h)
rising_hold (Some gs) ts all h =
    let found = cond_some (keys_rise gs) gs ts h in
    subst (λ (x : List Tag). (list_all has_texts x && keys_rise x) ≡ true) found.1 (and_from _ _ (all gs refl) found.0)

read_hold : (t : List ℕ) (ts : List Tag) → tags_in t ≡ Some ts → (list_all has_texts ts && keys_rise ts) ≡ true
read_hold [] ts h = subst (λ (x : List Tag). (list_all has_texts x && keys_rise x) ≡ true) (same_Some [] ts h) refl
read_hold (c ∷ cs) ts h =
    let parts = slice_split (λ x. x == 59) (c ∷ cs) in
    rising_hold (all_some (map tag_in parts)) ts (all_have_texts parts) h

pub tags_hold : (t : Tags) → (list_all has_texts (map tag_of (lent_tags t)) && keys_rise (map tag_of (lent_tags t))) ≡ true
tags_hold t = read_hold t.rest.text.now (map tag_of (lent_tags t)) (tags_read (lent t.rest) t.tags)

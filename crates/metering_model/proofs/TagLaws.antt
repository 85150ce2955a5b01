-- A reading's tags are read where they are joined, and back.
use Rattle.std.proofs.Common.{◌≡◌, ℕ, Bool, true, not, ◌&&◌, List, [], ◌∷◌, ◌++◌, map, Option, Some, None, codes, refl, sym, ap, ap₂, ◌∙◌, subst, append_assoc}
use Rattle.std.specs.Prelude.{◌==◌}
use Rattle.std.specs.List.{list_all, join_with_byte}
use Rattle.std.proofs.lemmas.Bool.{and_parts, and_from, cond-true, false≢true}
use Rattle.std.proofs.lemmas.Option.{cond_some, same_Some, none-some}
use Rattle.metering_model.specs.Batch.{Tag, tag_text, tags_text, is_text, is_text_byte, is_field, is_empty, lacks, is_tag, keys_rise}
use Rattle.metering_model.specs.BatchReading.{tag_in, tags_in, with_first, all_some, if_rising}
use Rattle.metering_model.proofs.Splitting.{parts_at, cut_join, join_cut, parts_lack, join_passed, list_all_both, list_all_left, list_all_right}
use Rattle.metering_model.proofs.FirstByte.{before, after, has, split_back, before_lacks, before_join, after_join, has_join}

-- ---- one tag

-- a tag's text with the equals sign as a byte
pub tag_bytes : (g : Tag) → tag_text g ≡ g.key ++ 61 ∷ g.value
tag_bytes g = append_assoc g.key (codes "=") g.value

-- the tests of a tag, each by its name
pub record TagParts (g : Tag) : Type 0 where
  pub key : is_field g.key ≡ true
  pub value : is_field g.value ≡ true
  pub named : not (is_empty g.key) ≡ true
  pub key_no_equals : lacks 61 g.key ≡ true
  pub key_no_semicolon : lacks 59 g.key ≡ true
  pub value_no_semicolon : lacks 59 g.value ≡ true

-- a tag passes each of its tests
pub tag_parts : (g : Tag) → is_tag g ≡ true → TagParts g
tag_parts g h =
    let f = and_parts (is_field g.key && is_field g.value && not (is_empty g.key) && lacks 61 g.key && lacks 59 g.key) (lacks 59 g.value) h in
    let e = and_parts (is_field g.key && is_field g.value && not (is_empty g.key) && lacks 61 g.key) (lacks 59 g.key) f.0 in
    let d = and_parts (is_field g.key && is_field g.value && not (is_empty g.key)) (lacks 61 g.key) e.0 in
    let c = and_parts (is_field g.key && is_field g.value) (not (is_empty g.key)) d.0 in
    let a = and_parts (is_field g.key) (is_field g.value) c.0 in
    record { key = a.0; value = a.1; named = c.1; key_no_equals = d.1; key_no_semicolon = e.1; value_no_semicolon = f.1 }

-- what passes each of them is a tag
tag_of_parts : (g : Tag) → TagParts g → is_tag g ≡ true
tag_of_parts g p =
    and_from _ _
    (and_from _ _ (and_from _ _ (and_from _ _ (and_from _ _ p.key p.value) p.named) p.key_no_equals) p.key_no_semicolon)
    p.value_no_semicolon

-- what each byte of a text passes each byte of its halves passes
halves_pass : (p : ℕ → Bool) (s t u : List ℕ) → u ≡ s ++ 61 ∷ t → list_all p u ≡ true → (list_all p s ≡ true) × (list_all p t ≡ true)
halves_pass p s t u e h =
    let k = sym (ap (list_all p) e) ∙ h in
    (list_all_left p s (61 ∷ t) k, (and_parts (p 61) (list_all p t) (list_all_right p s (61 ∷ t) k)).1)

-- what stands before and after the first equals sign
abbrev halves : List ℕ → Tag
halves t = record { key = before 61 t; value = after 61 t }

-- a text that is read as a tag is that tag's
pub tag_read : (t : List ℕ) (g : Tag) → tag_in t ≡ Some g → lacks 59 t ≡ true → lacks 124 t ≡ true → (t ≡ tag_text g) × (is_tag g ≡ true)
tag_read t g h no_semicolon no_bar =
    let found = cond_some (is_text t && has 61 t && not (is_empty (before 61 t))) (halves t) g h in
    let tests = and_parts (is_text t && has 61 t) (not (is_empty (before 61 t))) found.0 in
    let first = and_parts (is_text t) (has 61 t) tests.0 in
    let split = split_back 61 t first.1 in
    let texts = halves_pass is_text_byte (before 61 t) (after 61 t) t split first.0 in
    let semicolons = halves_pass (λ c. not (c == 59)) (before 61 t) (after 61 t) t split no_semicolon in
    let bars = halves_pass (λ c. not (c == 124)) (before 61 t) (after 61 t) t split no_bar in
    let parts : TagParts (halves t) = record {
      key = and_from _ _ texts.0 bars.0;
      value = and_from _ _ texts.1 bars.1;
      named = tests.1;
      key_no_equals = before_lacks 61 t;
      key_no_semicolon = semicolons.0;
      value_no_semicolon = semicolons.1;
    } in
    subst (λ (x : Tag). (t ≡ tag_text x) × (is_tag x ≡ true)) found.1 (split ∙ sym (tag_bytes (halves t)), tag_of_parts (halves t) parts)

abbrev some_tag : List ℕ → List ℕ → Option Tag
some_tag key value = Some (record { key = key; value = value })

-- a tag's text is read as it
pub tag_written : (g : Tag) → is_tag g ≡ true → tag_in (tag_text g) ≡ Some g
tag_written g h =
    let p = tag_parts g h in
    let text = list_all_both is_text_byte g.key (61 ∷ g.value) (and_parts _ _ p.key).0 (and_from _ _ refl (and_parts _ _ p.value).0) in
    let named = ap (λ s. not (is_empty s)) (before_join 61 g.key g.value p.key_no_equals) ∙ p.named in
    let tests = and_from _ _ (and_from _ _ text (has_join 61 g.key g.value p.key_no_equals)) named in
    ap tag_in (tag_bytes g)
    ∙ cond-true _ (Some (halves (g.key ++ 61 ∷ g.value))) None tests
    ∙ ap₂ some_tag (before_join 61 g.key g.value p.key_no_equals) (after_join 61 g.key g.value p.key_no_equals)

-- ---- tags in a row

-- a list of which the first is there, and the others are
first_read : {A : Type 0} (o : Option A) (os : Option (List A)) (xs : List A) → with_first o os ≡ Some xs → (y : A) × (ys : List A) × (o ≡ Some y) × (os ≡ Some ys) × (y ∷ ys ≡ xs)
first_read (Some y) (Some ys) xs h = (y, ys, refl, refl, same_Some _ _ h)
first_read (Some y) None xs h = absurd (none-some xs h)
first_read None os xs h = absurd (none-some xs h)

-- tags that were kept have keys that rise
rising_read : (o : Option (List Tag)) (ts : List Tag) → if_rising o ≡ Some ts → (o ≡ Some ts) × (keys_rise ts ≡ true)
-- tags that were kept have keys that rise
rising_read None ts h = absurd (none-some ts h)
-- tags that were kept have keys that rise
rising_read (Some us) ts h =
    let found = cond_some (keys_rise us) us ts h in
    (ap Some found.1, subst (λ (x : List Tag). keys_rise x ≡ true) found.1 found.0)

-- parts that are all read as tags are those tags' texts
all_read : (ps : List (List ℕ)) (ts : List Tag) → all_some (map tag_in ps) ≡ Some ts → list_all (lacks 59) ps ≡ true → list_all (lacks 124) ps ≡ true → (ps ≡ map tag_text ts) × (list_all is_tag ts ≡ true)
all_read [] ts h semicolons bars =
    subst (λ (x : List Tag). ([] ≡ map tag_text x) × (list_all is_tag x ≡ true)) (same_Some [] ts h) (refl, refl)
all_read (p ∷ ps) ts h semicolons bars =
    let found = first_read (tag_in p) (all_some (map tag_in ps)) ts h in
    let no_semicolon = and_parts (lacks 59 p) (list_all (lacks 59) ps) semicolons in
    let no_bar = and_parts (lacks 124 p) (list_all (lacks 124) ps) bars in
    let one = tag_read p found.0 found.2 no_semicolon.0 no_bar.0 in
    let more = all_read ps found.1 found.3 no_semicolon.1 no_bar.1 in
    subst (λ (x : List Tag). (p ∷ ps ≡ map tag_text x) × (list_all is_tag x ≡ true)) found.4 (ap₂ ◌∷◌ one.0 more.0, and_from _ _ one.1 more.1)

-- a text without `|` that is read as tags is those tags'
pub tags_read : (t : List ℕ) (ts : List Tag) → tags_in t ≡ Some ts → lacks 124 t ≡ true → (t ≡ tags_text ts) × ((list_all is_tag ts && keys_rise ts) ≡ true)
tags_read [] ts h no_bar =
    subst (λ (x : List Tag). ([] ≡ tags_text x) × ((list_all is_tag x && keys_rise x) ≡ true)) (same_Some [] ts h) (refl, refl)
tags_read (c ∷ cs) ts h no_bar =
    let parts = parts_at 59 (c ∷ cs) in
    let found = rising_read (all_some (map tag_in parts)) ts h in
    let bars = join_passed (λ x. not (x == 124)) 59 parts (ap (lacks 124) (join_cut 59 (c ∷ cs)) ∙ no_bar) in
    let all = all_read parts ts found.0 (parts_lack 59 (c ∷ cs)) bars in
    (sym (join_cut 59 (c ∷ cs)) ∙ ap (join_with_byte 59) all.0, and_from _ _ all.1 found.1)

-- tags' texts are all read as them
all_written : (ts : List Tag) → list_all is_tag ts ≡ true → all_some (map tag_in (map tag_text ts)) ≡ Some ts
-- tags' texts are all read as them
all_written [] h = refl
-- tags' texts are all read as them
all_written (g ∷ gs) h =
    let both = and_parts (is_tag g) (list_all is_tag gs) h in
    ap₂ with_first (tag_written g both.0) (all_written gs both.1)

-- no tag's text has a semicolon
texts_lack : (ts : List Tag) → list_all is_tag ts ≡ true → list_all (lacks 59) (map tag_text ts) ≡ true
texts_lack [] h = refl
texts_lack (g ∷ gs) h =
    let both = and_parts (is_tag g) (list_all is_tag gs) h in
    let p = tag_parts g both.0 in
    and_from _ _
    (ap (lacks 59) (tag_bytes g) ∙ list_all_both (λ c. not (c == 59)) g.key (61 ∷ g.value) p.key_no_semicolon (and_from _ _ refl p.value_no_semicolon))
    (texts_lack gs both.1)

-- a text that is not empty is cut and read part by part
cut_read : (t : List ℕ) (ps : List (List ℕ)) → not (is_empty t) ≡ true → parts_at 59 t ≡ ps → tags_in t ≡ if_rising (all_some (map tag_in ps))
cut_read [] ps h e = absurd (false≢true h)
cut_read (c ∷ cs) ps h e = ap (λ x. if_rising (all_some (map tag_in x))) e

-- a text that goes on is not empty
starts : (s t : List ℕ) → not (is_empty s) ≡ true → not (is_empty (s ++ t)) ≡ true
starts [] t h = absurd (false≢true h)
starts (c ∷ cs) t h = refl

-- nor is that of tags, since a tag has a key
tags_not_empty : (g : Tag) (gs : List Tag) → not (is_empty g.key) ≡ true → not (is_empty (tags_text (g ∷ gs))) ≡ true
tags_not_empty g [] h = starts (g.key ++ codes "=") g.value (starts g.key (codes "=") h)
tags_not_empty g (x ∷ xs) h =
    starts (tag_text g) (59 ∷ tags_text (x ∷ xs)) (starts (g.key ++ codes "=") g.value (starts g.key (codes "=") h))

-- tags' text is read as them
pub tags_written : (ts : List Tag) → (list_all is_tag ts && keys_rise ts) ≡ true → tags_in (tags_text ts) ≡ Some ts
tags_written [] h = refl
tags_written (g ∷ gs) h =
    let both = and_parts (list_all is_tag (g ∷ gs)) (keys_rise (g ∷ gs)) h in
    let first = and_parts (is_tag g) (list_all is_tag gs) both.0 in
    let cut = cut_join 59 (tag_text g) (map tag_text gs) (texts_lack (g ∷ gs) both.0) in
    cut_read (tags_text (g ∷ gs)) (map tag_text (g ∷ gs)) (tags_not_empty g gs (tag_parts g first.0).named) cut
    ∙ ap if_rising (all_written (g ∷ gs) both.0)
    ∙ cond-true (keys_rise (g ∷ gs)) (Some (g ∷ gs)) None both.1

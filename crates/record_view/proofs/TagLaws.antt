-- A text is tags if each of its parts is one, with a key above that of the part before it.
use Rattle.std.proofs.Common.{◌≡◌, ℕ, ◌+◌, ◌<◌, ◌==◌, ◌&&◌, Bool, true, false, not, cond, Option, Some, None, is_some, List, [], ◌∷◌, map, length, refl, sym, ap, subst, ◌∙◌, arith}
use Rattle.std.specs.List.{list_any, before_first, after_first, slice_split}
use Rattle.std.specs.Option.{option_map}
use Rattle.std.proofs.lemmas.Bool.{and_parts, false≢true}
use Rattle.std.proofs.lemmas.Option.{cond_some}
use Rattle.metering_model.specs.Batch.{Tag, is_text, is_empty, is_below, keys_rise}
use Rattle.metering_model.specs.BatchReading.{is_equals_sign, tag_in, tags_in, with_first, all_some, if_rising}
use Rattle.record_view.specs.Parts.{LentText, placed_from, parts_at}
use Rattle.record_view.specs.Inner.Placed.{IsPlaced, texts_of}
use Rattle.record_view.specs.TagTexts.{tag_of, lent_tag, unless_empty, tags_at}
use Rattle.record_view.specs.Inner.TagParts.{are_tags, key_in, if_above, rise_from, IsFirstPart}
use Rattle.record_view.proofs.PartLaws.{parts_whole}

-- ---- one tag

-- the tag that a text is, if it is one
abbrev tag_at : List ℕ → Tag
tag_at t = record { key = before_first is_equals_sign t; value = after_first is_equals_sign t }

abbrev is_tag_text : List ℕ → Bool
is_tag_text t = is_text t && list_any is_equals_sign t && not (is_empty (before_first is_equals_sign t))

-- what a tag is
pub record IsTagAt (t : List ℕ) (tag : Tag) : Type 0 where
  pub has_equals : list_any is_equals_sign t ≡ true
  pub some : not (is_empty tag.key) ≡ true
  pub is : tag ≡ tag_at t

pub tag_parts : (t : List ℕ) (tag : Tag) → tag_in t ≡ Some tag → IsTagAt t tag
tag_parts t tag h =
    let found = cond_some (is_tag_text t) (tag_at t) tag h in
    let tests = and_parts _ _ found.0 in
    record {
      has_equals = (and_parts (is_text t) (list_any is_equals_sign t) tests.0).1;
      some = subst (λ g. not (is_empty g.key) ≡ true) found.1 tests.1;
      is = sym found.1;
    }

-- each key is above nothing
pub above_nothing : (key : List ℕ) → not (is_empty key) ≡ true → is_below [] key ≡ true
above_nothing [] h = absurd (false≢true h)
above_nothing (c ∷ cs) h = refl

pub below_something : (last key : List ℕ) → is_below last key ≡ true → is_below [] key ≡ true
below_something [] [] h = h
below_something (x ∷ xs) [] h = absurd (false≢true h)
below_something last (c ∷ cs) h = refl

-- ---- rising

-- rising from above a key
abbrev rises : List ℕ → List Tag → Bool
rises last [] = true
rises last (t ∷ ts) = is_below last t.key && rises t.key ts

abbrev rises_if : List ℕ → Option (List Tag) → Bool
rises_if last None = false
rises_if last (Some ts) = rises last ts

rises_first : (t : Tag) (ts : List Tag) → keys_rise (t ∷ ts) ≡ rises t.key ts
rises_first t [] = refl
rises_first t (u ∷ us) = ap (λ b. is_below t.key u.key && b) (rises_first u us)

abbrev tags_of_parts : List LentText → Option (List Tag)
tags_of_parts ps = all_some (map tag_in (texts_of ps))

-- one part more, by whether it is a tag, whether its key is above the last, and what the others are
rise_step : (last : List ℕ) (t : Tag) (ps : List LentText) (b : Bool) (rest : Option (List Tag)) → rise_from (Some t.key) ps ≡ rises_if t.key rest
    → rise_from (cond b (Some t.key) None) ps ≡ cond b (rises_if t.key rest) false
rise_step last t ps true rest h = h
rise_step last t ps false rest h = refl

rises_with : (last : List ℕ) (t : Tag) (rest : Option (List Tag)) → cond (is_below last t.key) (rises_if t.key rest) false ≡ rises_if last (with_first (Some t) rest)
rises_with last t None = both_false (is_below last t.key)
  where
    both_false : (b : Bool) → cond b false false ≡ false
    both_false true = refl
    both_false false = refl
rises_with last t (Some ts) = as_and (is_below last t.key)
  where
    as_and : (b : Bool) → cond b (rises t.key ts) false ≡ (b && rises t.key ts)
    as_and true = refl
    as_and false = refl

pub rise_is : (last : List ℕ) (ps : List LentText) → rise_from (Some last) ps ≡ rises_if last (tags_of_parts ps)
rise_is last [] = refl
rise_is last (p ∷ ps) = by_tag (tag_in p.text) (λ t. rise_is t.key ps)
  where
    by_tag : (o : Option Tag) → ((t : Tag) → rise_from (Some t.key) ps ≡ rises_if t.key (tags_of_parts ps))
        → rise_from (if_above last (option_map (λ t. t.key) o)) ps ≡ rises_if last (with_first o (tags_of_parts ps))
    by_tag None rest = refl
    by_tag (Some t) rest = rise_step last t ps (is_below last t.key) (tags_of_parts ps) (rest t) ∙ rises_with last t (tags_of_parts ps)

-- the first key is above nothing, so the parts rise from there
tags_if_rising : (ps : List LentText) → is_some (if_rising (tags_of_parts ps)) ≡ rise_from (Some []) ps
tags_if_rising [] = refl
tags_if_rising (p ∷ ps) = by_tag (tag_in p.text) (λ t h. above_nothing t.key (tag_parts p.text t h).some) (tags_of_parts ps) ∙ sym (rise_is [] (p ∷ ps))
  where
    is_test : (b : Bool) (ts : List Tag) → is_some (cond b (Some ts) None) ≡ b
    is_test true ts = refl
    is_test false ts = refl

    by_tag : (o : Option Tag) → ((t : Tag) → o ≡ Some t → is_below [] t.key ≡ true) → (rest : Option (List Tag))
        → is_some (if_rising (with_first o rest)) ≡ rises_if [] (with_first o rest)
    by_tag None above rest = refl
    by_tag (Some t) above None = refl
    by_tag (Some t) above (Some ts) =
        is_test (keys_rise (t ∷ ts)) (t ∷ ts) ∙ rises_first t ts ∙ ap (λ b. b && rises t.key ts) (sym (above t refl))

-- ---- the whole text

texts_placed : (from : ℕ) (ts : List (List ℕ)) → texts_of (placed_from from ts) ≡ ts
texts_placed from [] = refl
texts_placed from (t ∷ ts) = ap (λ us. t ∷ us) (texts_placed (from + length t + 1) ts)

-- the parts of a text, without their places
pub texts_of_parts : (byte : ℕ) (t : LentText) → texts_of (parts_at byte t) ≡ slice_split (λ c. c == byte) t.text
unfolding parts_at
texts_of_parts byte t = texts_placed t.from (slice_split (λ c. c == byte) t.text)

-- a text with a byte is tags if its parts rise
tags_rise_of : (cs : List ℕ) (from to : ℕ) → 0 < length cs → are_tags cs ≡ rise_from (Some []) (parts_at 59 (record { text = cs; from = from; to = to }))
unfolding are_tags
tags_rise_of [] from to some = absurd (omega arith)
tags_rise_of (c ∷ cs) from to some =
    let t : LentText = record { text = c ∷ cs; from = from; to = to } in
    sym (ap (λ ts. is_some (if_rising (all_some (map tag_in ts)))) (texts_of_parts 59 t)) ∙ tags_if_rising (parts_at 59 t)

pub tags_rise : (t : LentText) → 0 < length t.text → are_tags t.text ≡ rise_from (Some []) (parts_at 59 t)
tags_rise t some = tags_rise_of t.text t.from t.to some

pub no_tags : (text : List ℕ) → length text ≡ 0 → are_tags text ≡ true
unfolding are_tags
no_tags [] h = refl
no_tags (c ∷ cs) h = absurd (omega arith)

pub tags_of_empty : (t : LentText) → length t.text ≡ 0 → tags_at t ≡ []
unfolding tags_at
tags_of_empty t h = by_text t.text h
  where
    by_text : (cs : List ℕ) → length cs ≡ 0 → unless_empty cs (map lent_tag (parts_at 59 t)) ≡ []
    by_text [] h = refl
    by_text (c ∷ cs) h = absurd (omega arith)

pub tags_of_parts_at : (t : LentText) → 0 < length t.text → tags_at t ≡ map lent_tag (parts_at 59 t)
unfolding tags_at
tags_of_parts_at t some = by_text t.text some
  where
    by_text : (cs : List ℕ) → 0 < length cs → unless_empty cs (map lent_tag (parts_at 59 t)) ≡ map lent_tag (parts_at 59 t)
    by_text [] h = absurd (omega arith)
    by_text (c ∷ cs) h = refl

-- ---- which tags they are

rising_all : (o : Option (List Tag)) → is_some (if_rising o) ≡ true → (is_some o ≡ true) × (if_rising o ≡ o)
rising_all None h = absurd (false≢true h)
rising_all (Some ts) h = by_test (keys_rise ts) h
  where
    by_test : (b : Bool) → is_some (cond b (Some ts) None) ≡ true → (is_some (Some ts) ≡ true) × (cond b (Some ts) None ≡ Some ts)
    by_test true h = (refl, refl)
    by_test false h = absurd (false≢true h)

all_tags : (ps : List LentText) → is_some (tags_of_parts ps) ≡ true → tags_of_parts ps ≡ Some (map tag_of (map lent_tag ps))
all_tags [] h = refl
all_tags (p ∷ ps) h = by_tag (tag_in p.text) (tags_of_parts ps) (λ t e. (tag_parts p.text t e).is) (all_tags ps) h
  where
    by_tag : (o : Option Tag) (rest : Option (List Tag)) → ((t : Tag) → o ≡ Some t → t ≡ tag_at p.text)
        → (is_some rest ≡ true → rest ≡ Some (map tag_of (map lent_tag ps)))
        → is_some (with_first o rest) ≡ true → with_first o rest ≡ Some (tag_at p.text ∷ map tag_of (map lent_tag ps))
    by_tag None rest is others h = absurd (false≢true h)
    by_tag (Some t) None is others h = absurd (false≢true h)
    by_tag (Some t) (Some ts) is others h =
        ap (λ u. Some (u ∷ ts)) (is t refl) ∙ ap (λ o. with_first (Some (tag_at p.text)) o) (others refl)

tags_read_of : (cs : List ℕ) (from to : ℕ) → are_tags cs ≡ true → tags_in cs ≡ Some (map tag_of (tags_at (record { text = cs; from = from; to = to })))
unfolding are_tags tags_at
tags_read_of [] from to h = refl
tags_read_of (c ∷ cs) from to h =
    let t : LentText = record { text = c ∷ cs; from = from; to = to } in
    let parts = ap (λ ts. if_rising (all_some (map tag_in ts))) (texts_of_parts 59 t) in
    let rising = rising_all (tags_of_parts (parts_at 59 t)) (ap is_some parts ∙ h) in
    sym parts ∙ rising.1 ∙ all_tags (parts_at 59 t) rising.0

-- the tags of a text are the model's
pub tags_read : (t : LentText) → are_tags t.text ≡ true → tags_in t.text ≡ Some (map tag_of (tags_at t))
tags_read t h = tags_read_of t.text t.from t.to h

pub tags_not_read : (text : List ℕ) → are_tags text ≡ false → tags_in text ≡ None
unfolding are_tags
tags_not_read text h = by_tags (tags_in text) h
  where
    by_tags : (o : Option (List Tag)) → is_some o ≡ false → o ≡ None
    by_tags None h = refl
    by_tags (Some ts) h = absurd (false≢true (sym h))

-- ---- the first tag, and the others

rise_lower : (last : List ℕ) (ps : List LentText) → rise_from (Some last) ps ≡ true → rise_from (Some []) ps ≡ true
rise_lower last [] h = refl
rise_lower last (p ∷ ps) h = by_key (key_in p.text) h
  where
    by_test : (key : List ℕ) (a b : Bool) → (a ≡ true → b ≡ true) → rise_from (cond a (Some key) None) ps ≡ true → rise_from (cond b (Some key) None) ps ≡ true
    by_test key true b both h = subst (λ x. rise_from (cond x (Some key) None) ps ≡ true) (sym (both refl)) h
    by_test key false b both h = absurd (false≢true h)

    by_key : (o : Option (List ℕ)) → rise_from (if_above last o) ps ≡ true → rise_from (if_above [] o) ps ≡ true
    by_key None h = h
    by_key (Some key) h = by_test key (is_below last key) (is_below [] key) (below_something last key) h

-- behind a `;` stands a tag
some_behind : (last cs : List ℕ) (from to : ℕ) → rise_from (Some last) (parts_at 59 (record { text = cs; from = from; to = to })) ≡ true → 0 < length cs
unfolding parts_at
some_behind last [] from to h = absurd (false≢true h)
some_behind last (c ∷ cs) from to h = omega arith

-- a part that is followed by others
pub first_part : (t part rest : LentText) → 0 < length t.text → are_tags t.text ≡ true → parts_at 59 t ≡ part ∷ parts_at 59 rest → IsFirstPart t part rest
first_part t part rest some h e =
    by_tag (tag_in part.text) refl (sym (ap (λ ps. rise_from (Some []) ps) e) ∙ sym (tags_rise t some) ∙ h)
  where
    behind : (key : List ℕ) → rise_from (Some key) (parts_at 59 rest) ≡ true → (are_tags rest.text ≡ true) × (tags_at rest ≡ map lent_tag (parts_at 59 rest))
    behind key rises =
        let more : 0 < length rest.text = some_behind key rest.text rest.from rest.to rises in
        (tags_rise rest more ∙ rise_lower key (parts_at 59 rest) rises, tags_of_parts_at rest more)

    by_test : (tag : Tag) → tag_in part.text ≡ Some tag → (b : Bool) → rise_from (cond b (Some tag.key) None) (parts_at 59 rest) ≡ true → IsFirstPart t part rest
    by_test tag is true rises =
        let others = behind tag.key rises in
        record {
          has_equals = (tag_parts part.text tag is).has_equals;
          others = others.0;
          tags = tags_of_parts_at t some ∙ ap (map lent_tag) e ∙ ap (λ ts. lent_tag part ∷ ts) (sym others.1);
        }
    by_test tag is false rises = absurd (false≢true rises)

    by_tag : (o : Option Tag) → tag_in part.text ≡ o → rise_from (if_above [] (option_map (λ t. t.key) o)) (parts_at 59 rest) ≡ true → IsFirstPart t part rest
    by_tag None is rises = absurd (false≢true rises)
    by_tag (Some tag) is rises = by_test tag is (is_below [] tag.key) rises

-- the last part
pub last_part : (t rest : LentText) → 0 < length t.text → are_tags t.text ≡ true → parts_at 59 t ≡ t ∷ [] → length rest.text ≡ 0 → IsFirstPart t t rest
last_part t rest some h e empty =
    by_tag (tag_in t.text) refl (sym (ap (λ ps. rise_from (Some []) ps) e) ∙ sym (tags_rise t some) ∙ h)
  where
    by_tag : (o : Option Tag) → tag_in t.text ≡ o → rise_from (if_above [] (option_map (λ t. t.key) o)) [] ≡ true → IsFirstPart t t rest
    by_tag None is rises = absurd (false≢true rises)
    by_tag (Some tag) is rises = record {
      has_equals = (tag_parts t.text tag is).has_equals;
      others = no_tags rest.text empty;
      tags = tags_of_parts_at t some ∙ ap (map lent_tag) e ∙ ap (λ ts. lent_tag t ∷ ts) (sym (tags_of_empty rest empty));
    }

-- ---- each part of tags has its `=`

abbrev pub AllHaveEquals : List LentText → Type 0
AllHaveEquals [] = Unit {0}
AllHaveEquals (p ∷ ps) = (list_any (λ c. c == 61) p.text ≡ true) × AllHaveEquals ps

pub all_have_equals : (last : List ℕ) (ps : List LentText) → rise_from (Some last) ps ≡ true → AllHaveEquals ps
all_have_equals last [] h = tt
all_have_equals last (p ∷ ps) h = by_tag (tag_in p.text) refl (λ key. all_have_equals key ps) h
  where
    by_test : (tag : Tag) → tag_in p.text ≡ Some tag → ((key : List ℕ) → rise_from (Some key) ps ≡ true → AllHaveEquals ps)
        → (b : Bool) → rise_from (cond b (Some tag.key) None) ps ≡ true → AllHaveEquals (p ∷ ps)
    by_test tag is others true rises = ((tag_parts p.text tag is).has_equals, others tag.key rises)
    by_test tag is others false rises = absurd (false≢true rises)

    by_tag : (o : Option Tag) → tag_in p.text ≡ o → ((key : List ℕ) → rise_from (Some key) ps ≡ true → AllHaveEquals ps)
        → rise_from (if_above last (option_map (λ t. t.key) o)) ps ≡ true → AllHaveEquals (p ∷ ps)
    by_tag None is others rises = absurd (false≢true rises)
    by_tag (Some tag) is others rises = by_test tag is others (is_below last tag.key) rises

-- the last part rises above the key before it just if it is a tag with a key above that one
pub last_rises : (last : List ℕ) (t : LentText) → IsPlaced t → list_any (λ c. c == 59) t.text ≡ false
    → rise_from (Some last) (parts_at 59 t) ≡ is_some (if_above last (key_in t.text))
last_rises last t placed none = ap (rise_from (Some last)) (parts_whole 59 t placed none) ∙ at_end (if_above last (key_in t.text))
  where
    at_end : (o : Option (List ℕ)) → rise_from o [] ≡ is_some o
    at_end None = refl
    at_end (Some key) = refl

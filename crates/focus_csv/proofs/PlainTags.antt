-- Tags whose text has no byte before which JSON puts a backslash: no key and no value has one.
use Rattle.std.proofs.Common.{◌≡◌, ℕ, ◌==◌, ◌||◌, ◌&&◌, Bool, true, false, not, List, [], ◌∷◌, map, Option, Some, None, refl, sym, ap, ◌∙◌, subst}
use Rattle.std.specs.List.{list_all}
use Rattle.std.proofs.lemmas.Bool.{and_parts, and_from}
use Rattle.std.proofs.lemmas.Option.{cond_some, same_Some, none-some}
use Rattle.metering_model.specs.Batch.{Tag, is_text, is_empty, keys_rise}
use Rattle.metering_model.specs.BatchReading.{tag_in, tags_in, with_first, all_some, if_rising}
use Rattle.metering_model.proofs.Splitting.{parts_at, join_cut, join_passed, list_all_left, list_all_right}
use Rattle.metering_model.proofs.FirstByte.{before, after, has, split_back}
use Rattle.focus_csv.specs.Inner.Strings.{are_plain, is_odd}

abbrev is_usual : ℕ → Bool
is_usual c = not ((c == 34) || (c == 92))

usual_byte : (odd rest : Bool) (all : Bool) → (odd || rest) ≡ false → (rest ≡ false → all ≡ true) → (not odd && all) ≡ true
usual_byte true rest all h more = absurd (cc)
usual_byte false rest all h more = more h

usual : (t : List ℕ) → is_odd t ≡ false → list_all is_usual t ≡ true
usual [] h = refl
usual (c ∷ cs) h = usual_byte ((c == 34) || (c == 92)) (is_odd cs) (list_all is_usual cs) h (usual cs)

odd_byte : (odd rest : Bool) (all : Bool) → (not odd && all) ≡ true → (all ≡ true → rest ≡ false) → (odd || rest) ≡ false
odd_byte true rest all h more = absurd (cc)
odd_byte false rest all h more = more h

not_odd : (t : List ℕ) → list_all is_usual t ≡ true → is_odd t ≡ false
not_odd [] h = refl
not_odd (c ∷ cs) h = odd_byte ((c == 34) || (c == 92)) (is_odd cs) (list_all is_usual cs) h (not_odd cs)

none_odd : (key value : Bool) → key ≡ false → value ≡ false → not (key || value) ≡ true
none_odd key value k v = ap (λ b. not (b || value)) k ∙ ap not v

-- what is read of such a text
tag_plain : (t : List ℕ) (g : Tag) → tag_in t ≡ Some g → list_all is_usual t ≡ true → not (is_odd g.key || is_odd g.value) ≡ true
tag_plain t g h all =
    let halves : Tag = record { key = before 61 t; value = after 61 t } in
    let found = cond_some (is_text t && has 61 t && not (is_empty (before 61 t))) halves g h in
    let first = and_parts (is_text t && has 61 t) (not (is_empty (before 61 t))) found.0 in
    let split = sym (ap (list_all is_usual) (split_back 61 t (and_parts (is_text t) (has 61 t) first.0).1)) ∙ all in
    let key = list_all_left is_usual (before 61 t) (61 ∷ after 61 t) split in
    let value = (and_parts (is_usual 61) (list_all is_usual (after 61 t)) (list_all_right is_usual (before 61 t) (61 ∷ after 61 t) split)).1 in
    subst (λ (x : Tag). not (is_odd x.key || is_odd x.value) ≡ true) found.1
    (none_odd (is_odd (before 61 t)) (is_odd (after 61 t)) (not_odd (before 61 t) key) (not_odd (after 61 t) value))

-- a list of which the first is there, and the others are
first_read : {A : Type 0} (o : Option A) (os : Option (List A)) (xs : List A) → with_first o os ≡ Some xs → (y : A) × (ys : List A) × (o ≡ Some y) × (os ≡ Some ys) × (y ∷ ys ≡ xs)
first_read (Some y) (Some ys) xs h = (y, ys, refl, refl, same_Some _ _ h)
first_read (Some y) None xs h = absurd (none-some xs h)
first_read None os xs h = absurd (none-some xs h)

each_plain : (ps : List (List ℕ)) (ts : List Tag) → all_some (map tag_in ps) ≡ Some ts → list_all (list_all is_usual) ps ≡ true → are_plain ts ≡ true
each_plain [] ts h all = subst (λ (x : List Tag). are_plain x ≡ true) (same_Some [] ts h) refl
each_plain (p ∷ ps) ts h all =
    let found = first_read (tag_in p) (all_some (map tag_in ps)) ts h in
    let parts = and_parts (list_all is_usual p) (list_all (list_all is_usual) ps) all in
    subst (λ (x : List Tag). are_plain x ≡ true) found.4
    (and_from _ _ (tag_plain p found.0 found.2 parts.0) (each_plain ps found.1 found.3 parts.1))

rising : (o : Option (List Tag)) (ts : List Tag) → if_rising o ≡ Some ts → o ≡ Some ts
rising None ts h = absurd (none-some ts h)
rising (Some us) ts h = ap Some (cond_some (keys_rise us) us ts h).1

pub plain_tags : (t : List ℕ) (ts : List Tag) → tags_in t ≡ Some ts → is_odd t ≡ false → are_plain ts ≡ true
plain_tags [] ts h none = subst (λ (x : List Tag). are_plain x ≡ true) (same_Some [] ts h) refl
plain_tags (c ∷ cs) ts h none =
    each_plain (parts_at 59 (c ∷ cs)) ts (rising (all_some (map tag_in (parts_at 59 (c ∷ cs)))) ts h)
    (join_passed is_usual 59 (parts_at 59 (c ∷ cs)) (ap (list_all is_usual) (join_cut 59 (c ∷ cs)) ∙ usual (c ∷ cs) none))

-- a plain tag is first, and the others are plain
pub next_plain : (t : Tag) (ts : List Tag) → are_plain (t ∷ ts) ≡ true → (is_odd t.key ≡ false) × (is_odd t.value ≡ false) × (are_plain ts ≡ true)
next_plain t ts h =
    let parts = and_parts (not (is_odd t.key || is_odd t.value)) (are_plain ts) h in
    let none = neither (is_odd t.key) (is_odd t.value) parts.0 in
    (none.0, none.1, parts.1)
  where
    neither : (a b : Bool) → not (a || b) ≡ true → (a ≡ false) × (b ≡ false)
    neither true b e = absurd (cc)
    neither false true e = absurd (cc)
    neither false false e = (refl, refl)

pub all_plain : (text : List ℕ) (ts : List Tag) (odd : Bool) → tags_in text ≡ Some ts → odd ≡ is_odd text → not odd ≡ true → are_plain ts ≡ true
all_plain text ts true read is none = absurd (cc)
all_plain text ts false read is none = plain_tags text ts read (sym is)

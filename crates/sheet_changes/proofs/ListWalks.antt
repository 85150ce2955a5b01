-- What was put of a list so far, of one element more, and of all.
use Rattle.std.proofs.Common.{◌≡◌, ℕ, ◌+◌, ◌<◌, ◌≤◌, Bool, true, false, cond, List, [], ◌∷◌, ◌++◌, Bor, Result, Ok, Err, OnOk, length, get_or, map, filter, take, sym, ap, ◌∙◌, codes}
use Rattle.std.specs.List.{flat_map}
use Rattle.std.specs.Result.{is_ok}
use Rattle.std.proofs.lemmas.Grind.{flat_map-append}
use Rattle.std.proofs.lemmas.List.{append-nil, append_assoc, map-append, take_all, take_more}
use Rattle.std.proofs.lemmas.List.Elements.{filter-append}
use Rattle.metering_model.specs.Sheet.{Region}
use Rattle.metering_model.specs.Transcript.{line}
use Rattle.sheet_changes.specs.Changes.{region_lines}
use Rattle.sheet_changes.specs.Inner.Compared.{lines_of}
use Rattle.sheet_changes.specs.Regions.{ids_of}

pub next_of : {X : Type 0} (xs : List X) (i : ℕ) (x : X) → i < length xs → x ≡ get_or xs i x → take (i + 1) xs ≡ take i xs ++ x ∷ []
next_of xs i x low item = take_more xs i x low ∙ ap (λ y. take i xs ++ y ∷ []) (sym item)

module _ {X A : Type 0} (F : List X → List A) (old told : List A) where
  pub one_more : (longer : List A) (front next : List X) (x : X) → F (front ++ x ∷ []) ≡ F front ++ F (x ∷ []) → next ≡ front ++ x ∷ []
      → longer ≡ told ++ F (x ∷ []) → told ≡ old ++ F front → longer ≡ old ++ F next
  one_more longer front next x adds is put before =
      put ∙ ap (λ t. t ++ F (x ∷ [])) before ∙ append_assoc old (F front) (F (x ∷ [])) ∙ ap (λ t. old ++ t) (sym (ap F is ∙ adds))

  pub all_of : (xs : List X) (i : ℕ) → length xs ≤ i → told ≡ old ++ F (take i xs) → told ≡ old ++ F xs
  all_of xs i past before = before ∙ ap (λ ys. old ++ F ys) (take_all i xs past)

-- ---- what is put of each element

module _ {X : Type 0} (f : X → List ℕ) (old told longer : List ℕ) (xs : List X) (i : ℕ) (d : X) where
  pub put_next : i < length xs → longer ≡ told ++ f (get_or xs i d) → told ≡ old ++ flat_map f (take i xs) → longer ≡ old ++ flat_map f (take (i + 1) xs)
  put_next low put before =
      let x = get_or xs i d in
      one_more (flat_map f) old told longer (take i xs) (take (i + 1) xs) x (flat_map-append f (take i xs) (x ∷ [])) (take_more xs i d low)
      (put ∙ ap (λ t. told ++ t) (sym (append-nil (f x)))) before

texts : List (Bor (List ℕ)) → List (List ℕ)
texts ids = map (λ id. id.now) ids

module _ (f : List ℕ → List ℕ) (old told longer : List ℕ) (ids : List (Bor (List ℕ))) (i : ℕ) (d : Bor (List ℕ)) where
  pub put_next_text : i < length ids → longer ≡ told ++ f (get_or ids i d).now → told ≡ old ++ flat_map f (map (λ id. id.now) (take i ids)) → longer ≡ old ++ flat_map f (map (λ id. id.now) (take (i + 1) ids))
  unfolding texts
  put_next_text low put before =
      let x = get_or ids i d in
      one_more (λ xs. flat_map f (texts xs)) old told longer (take i ids) (take (i + 1) ids) x
      (ap (flat_map f) (map-append (λ (id : Bor (List ℕ)). id.now) (take i ids) (x ∷ [])) ∙ flat_map-append f (texts (take i ids)) (x.now ∷ []))
      (take_more ids i d low) (put ∙ ap (λ t. told ++ t) (sym (append-nil (f x.now)))) before

-- ---- the lines of regions that pass a test

lines_append : (test : Region → Bool) (xs ys : List Region) → lines_of test (xs ++ ys) ≡ lines_of test xs ++ lines_of test ys
lines_append test xs ys =
    ap (λ rows. region_lines (ids_of rows)) (filter-append test xs ys)
    ∙ ap region_lines (map-append (λ (x : Region). x.id) (filter test xs) (filter test ys))
    ∙ flat_map-append (λ id. line (codes "region " ++ id)) (ids_of (filter test xs)) (ids_of (filter test ys))

module _ (test : Region → Bool) (old told longer : List ℕ) (rows : List Region) (i : ℕ) (x : Region) (low : i < length rows) (item : x ≡ get_or rows i x) (before : told ≡ old ++ lines_of test (take i rows)) where
  put_more : longer ≡ told ++ lines_of test (x ∷ []) → longer ≡ old ++ lines_of test (take (i + 1) rows)
  put_more put = one_more (lines_of test) old told longer (take i rows) (take (i + 1) rows) x (lines_append test (take i rows) (x ∷ [])) (next_of rows i x low item) put before

  pub passed : test x ≡ true → longer ≡ told ++ region_lines (x.id ∷ []) → longer ≡ old ++ lines_of test (take (i + 1) rows)
  passed passes put = put_more (put ∙ ap (λ b. told ++ region_lines (ids_of (cond b (x ∷ []) []))) (sym passes))

  pub left_out : test x ≡ false → longer ≡ told → longer ≡ old ++ lines_of test (take (i + 1) rows)
  left_out fails same = put_more (same ∙ sym (append-nil told) ∙ ap (λ b. told ++ region_lines (ids_of (cond b (x ∷ []) []))) (sym fails))

-- ---- what a call of a Vec appends last, which may fail

pub on_put : {A E P : Type 0} (r : Result A E) (put with without : List ℕ) → put ≡ cond (is_ok r) with without → (put ≡ with → P) → OnOk r P
on_put (Ok x) put with without is then = then is
on_put (Err e) put with without is then = tt

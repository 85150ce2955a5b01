-- What is put behind one another, one more at a time.
use Rattle.std.proofs.Common.{◌≡◌, ℕ, ◌+◌, ◌<◌, ◌≤◌, Bool, true, false, not, List, [], ◌∷◌, ◌++◌, length, map, take, drop, get_or, refl, sym, ap, ap₂, ◌∙◌, append_assoc, arith}
use Rattle.std.specs.List.{flat_map}
use Rattle.std.specs.Str.{bytes_eq}
use Rattle.std.proofs.lemmas.List.{append-nil, length-append, map-append, take-append-drop, take_more}
use Rattle.std.proofs.lemmas.Slice.Eq.{bytes_eq-Decides}
use Rattle.std.proofs.lemmas.Grind.{flat_map-append}

-- one element more
pub each_more : {X : Type 0} (f : X → List ℕ) (xs : List X) (x : X) → flat_map f xs ++ f x ≡ flat_map f (xs ++ x ∷ [])
each_more f xs x = ap (λ t. flat_map f xs ++ t) (sym (append-nil (f x))) ∙ sym (flat_map-append f xs (x ∷ []))

-- the same of the next element of a list
pub taken_more : {X : Type 0} (f : X → List ℕ) (xs : List X) (i : ℕ) (default : X) → i < length xs
    → flat_map f (take i xs) ++ f (get_or xs i default) ≡ flat_map f (take (i + 1) xs)
taken_more f xs i default lt = each_more f (take i xs) (get_or xs i default) ∙ ap (flat_map f) (sym (take_more xs i default lt))

-- ---- texts, each read out of an element

texts_more : {X : Type 0} (g : X → List ℕ) (xs : List X) (i : ℕ) (default : X) → i < length xs
    → map g (take i xs) ++ g (get_or xs i default) ∷ [] ≡ map g (take (i + 1) xs)
texts_more g xs i default lt =
    sym (map-append g (take i xs) (get_or xs i default ∷ [])) ∙ ap (map g) (sym (take_more xs i default lt))

mapped_more : {X : Type 0} (f : List ℕ → List ℕ) (g : X → List ℕ) (xs : List X) (i : ℕ) (default : X) → i < length xs
    → flat_map f (map g (take i xs)) ++ f (g (get_or xs i default)) ≡ flat_map f (map g (take (i + 1) xs))
mapped_more f g xs i default lt = each_more f (map g (take i xs)) (g (get_or xs i default)) ∙ ap (flat_map f) (texts_more g xs i default lt)

-- one more, behind a text and those so far
pub put_more : {X : Type 0} (f : List ℕ → List ℕ) (g : X → List ℕ) (xs : List X) (i : ℕ) (default : X) (text old new : List ℕ) → i < length xs
    → new ≡ old ++ f (g (get_or xs i default)) → old ≡ text ++ flat_map f (map g (take i xs))
    → new ≡ text ++ flat_map f (map g (take (i + 1) xs))
put_more f g xs i default text old new lt is before =
    is ∙ ap (λ t. t ++ f (g (get_or xs i default))) before
    ∙ append_assoc text (flat_map f (map g (take i xs))) (f (g (get_or xs i default)))
    ∙ ap (λ t. text ++ t) (mapped_more f g xs i default lt)

in_two : {X : Type 0} (f : List ℕ → List ℕ) (g : X → List ℕ) (xs : List X) (n : ℕ)
    → flat_map f (map g xs) ≡ flat_map f (map g (take n xs)) ++ flat_map f (map g (drop n xs))
in_two f g xs n =
    ap (λ t. flat_map f (map g t)) (sym (take-append-drop n xs)) ∙ ap (flat_map f) (map-append g (take n xs) (drop n xs))
    ∙ flat_map-append f (map g (take n xs)) (map g (drop n xs))

-- those so far and one more are no longer than all
pub no_longer : {X : Type 0} (f : List ℕ → List ℕ) (g : X → List ℕ) (xs : List X) (i : ℕ) (default : X) → i < length xs
    → length (flat_map f (map g (take i xs))) + length (f (g (get_or xs i default))) ≤ length (flat_map f (map g xs))
no_longer f g xs i default lt =
    let so_far = flat_map f (map g (take i xs)) in
    let next = f (g (get_or xs i default)) in
    let front = flat_map f (map g (take (i + 1) xs)) in
    let rest = flat_map f (map g (drop (i + 1) xs)) in
    omega (arith, length-append so_far next, ap length (mapped_more f g xs i default lt), length-append front rest, ap length (in_two f g xs (i + 1)))

-- ---- texts that are the same

not_false : (b : Bool) → not b ≡ false → b ≡ true
not_false true h = refl
not_false false h = sym h

pub same_more : {X : Type 0} (g : X → List ℕ) (xs ys : List X) (i : ℕ) (default : X) (other : Bool) → i < length xs → length xs ≡ length ys
    → map g (take i xs) ≡ map g (take i ys)
    → other ≡ not (bytes_eq (g (get_or xs i default)) (g (get_or ys i default))) → other ≡ false
    → map g (take (i + 1) xs) ≡ map g (take (i + 1) ys)
same_more g xs ys i default other lt long before is differs =
    let s = g (get_or xs i default) in
    let t = g (get_or ys i default) in
    let same : s ≡ t = (bytes_eq-Decides s t).0 (not_false (bytes_eq s t) (sym is ∙ differs)) in
    sym (texts_more g xs i default lt) ∙ ap₂ (λ a b. a ++ b ∷ []) before same ∙ texts_more g ys i default (omega (arith, lt, long))

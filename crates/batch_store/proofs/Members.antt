-- What a list contains, by recursion, and what `map`, `filter_map` and `flat_map` leave of it.
use Rattle.std.proofs.Common.{◌≡◌, zero, suc, Bool, true, List, [], ◌∷◌, map, refl, sym, ap, subst, ◌∙◌, arith, Option, Some, None, inl, inr, ◌⊎◌}
use Rattle.std.specs.List.{Contains, filter_map, flat_map, cons_option, list_all}
use Rattle.std.proofs.lemmas.Bool.{and_parts}
use Rattle.std.proofs.lemmas.List.Elements.{Contains-append_left, Contains-append_right, Contains-append_cases}

pub contains-nil : {X : Type 0} (y : X) → Contains [] y → ⊥
contains-nil y (k, less, is) = absurd (omega arith)

pub contains-here : {X : Type 0} (xs : List X) (y : X) → Contains (y ∷ xs) y
contains-here xs y = (0, omega arith, refl)

pub contains-there : {X : Type 0} (x : X) (xs : List X) (y : X) → Contains xs y → Contains (x ∷ xs) y
contains-there x xs y (k, less, is) = (suc k, omega arith, is)

pub contains-cases : {X : Type 0} (x : X) (xs : List X) (y : X) → Contains (x ∷ xs) y → (x ≡ y) ⊎ Contains xs y
contains-cases x xs y (zero, less, is) = inl is
contains-cases x xs y (suc k, less, is) = inr (k, omega arith, is)

-- what one passes that all pass
pub all-contains : {X : Type 0} (test : X → Bool) (xs : List X) (y : X) → list_all test xs ≡ true → Contains xs y → test y ≡ true
all-contains test [] y all has = absurd (contains-nil y has)
all-contains test (x ∷ xs) y all has =
    let parts = and_parts (test x) (list_all test xs) all in
    elim (contains-cases x xs y has) [
      | inl here ↦ subst (λ z. test z ≡ true) here parts.0
      | inr there ↦ all-contains test xs y parts.1 there
    ]

-- where it comes from
pub record ComesFrom {X Y : Type 0} (f : X → Option Y) (xs : List X) (y : Y) : Type 0 where
  pub source : X
  pub is_there : Contains xs source
  pub gives : f source ≡ Some y

pub filter_map-into : {X Y : Type 0} (f : X → Option Y) (xs : List X) (y : Y) → ComesFrom f xs y → Contains (filter_map f xs) y
filter_map-into f [] y from = absurd (contains-nil from.source from.is_there)
filter_map-into {Y = Y} f (x ∷ xs) y from = elim (contains-cases x xs from.source from.is_there) [
  | inl here ↦ subst (λ o. Contains (cons_option o (filter_map f xs)) y) (sym (ap f here ∙ from.gives)) (contains-here (filter_map f xs) y)
  | inr there ↦ behind (f x) (filter_map-into f xs y (record { source = from.source; is_there = there; gives = from.gives }))
]
  where
    behind : (o : Option Y) → Contains (filter_map f xs) y → Contains (cons_option o (filter_map f xs)) y
    behind None has = has
    behind (Some z) has = contains-there z (filter_map f xs) y has

pub filter_map-from : {X Y : Type 0} (f : X → Option Y) (xs : List X) (y : Y) → Contains (filter_map f xs) y → ComesFrom f xs y
filter_map-from f [] y has = absurd (contains-nil y has)
filter_map-from {Y = Y} f (x ∷ xs) y has = by_first (f x) refl has (λ there. later (filter_map-from f xs y there))
  where
    later : ComesFrom f xs y → ComesFrom f (x ∷ xs) y
    later from = record { source = from.source; is_there = contains-there x xs from.source from.is_there; gives = from.gives }

    by_first : (o : Option Y) → f x ≡ o → Contains (cons_option o (filter_map f xs)) y → (Contains (filter_map f xs) y → ComesFrom f (x ∷ xs) y) → ComesFrom f (x ∷ xs) y
    by_first None e has rest = rest has
    by_first (Some z) e has rest = elim (contains-cases z (filter_map f xs) y has) [
      | inl here ↦ record { source = x; is_there = contains-here xs x; gives = e ∙ ap Some here }
      | inr there ↦ rest there
    ]

-- the same of `map`
pub record IsImage {X Y : Type 0} (f : X → Y) (xs : List X) (y : Y) : Type 0 where
  pub source : X
  pub is_there : Contains xs source
  pub gives : f source ≡ y

pub map-into : {X Y : Type 0} (f : X → Y) (xs : List X) (y : Y) → IsImage f xs y → Contains (map f xs) y
map-into f [] y from = absurd (contains-nil from.source from.is_there)
map-into f (x ∷ xs) y from = elim (contains-cases x xs from.source from.is_there) [
  | inl here ↦ subst (λ z. Contains (z ∷ map f xs) y) (sym (ap f here ∙ from.gives)) (contains-here (map f xs) y)
  | inr there ↦ contains-there (f x) (map f xs) y (map-into f xs y (record { source = from.source; is_there = there; gives = from.gives }))
]

pub map-from : {X Y : Type 0} (f : X → Y) (xs : List X) (y : Y) → Contains (map f xs) y → IsImage f xs y
map-from f [] y has = absurd (contains-nil y has)
map-from f (x ∷ xs) y has = elim (contains-cases (f x) (map f xs) y has) [
  | inl here ↦ record { source = x; is_there = contains-here xs x; gives = here }
  | inr there ↦ later (map-from f xs y there)
]
  where
    later : IsImage f xs y → IsImage f (x ∷ xs) y
    later from = record { source = from.source; is_there = contains-there x xs from.source from.is_there; gives = from.gives }

-- and of `flat_map`
pub record IsAmong {X Y : Type 0} (f : X → List Y) (xs : List X) (y : Y) : Type 0 where
  pub source : X
  pub is_there : Contains xs source
  pub has : Contains (f source) y

pub flat_map-into : {X Y : Type 0} (f : X → List Y) (xs : List X) (y : Y) → IsAmong f xs y → Contains (flat_map f xs) y
flat_map-into f [] y from = absurd (contains-nil from.source from.is_there)
flat_map-into f (x ∷ xs) y from = elim (contains-cases x xs from.source from.is_there) [
  | inl here ↦ Contains-append_left (f x) (flat_map f xs) y (subst (λ z. Contains (f z) y) (sym here) from.has)
  | inr there ↦ Contains-append_right (f x) (flat_map f xs) y (flat_map-into f xs y (record { source = from.source; is_there = there; has = from.has }))
]

pub flat_map-from : {X Y : Type 0} (f : X → List Y) (xs : List X) (y : Y) → Contains (flat_map f xs) y → IsAmong f xs y
flat_map-from f [] y has = absurd (contains-nil y has)
flat_map-from f (x ∷ xs) y has = elim (Contains-append_cases (f x) (flat_map f xs) y has) [
  | inl here ↦ record { source = x; is_there = contains-here xs x; has = here }
  | inr there ↦ later (flat_map-from f xs y there)
]
  where
    later : IsAmong f xs y → IsAmong f (x ∷ xs) y
    later from = record { source = from.source; is_there = contains-there x xs from.source from.is_there; has = from.has }

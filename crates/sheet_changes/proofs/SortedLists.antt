-- What a sort leaves once its repeats are gone: just what was there, each once, in order.
use Rattle.std.proofs.Common.{Ordering, Less, Equal, Greater, ◌≡◌, ℕ, zero, suc, Bool, true, ◌&&◌, List, [], ◌∷◌, ◌++◌, map, Bor, ℤ, refl, sym, ap, ap₂, subst, ◌∙◌, arith, Contains, IsPermutation}
use Rattle.std.specs.Prelude.{All, nat_eq}
use Rattle.std.specs.Cmp.{IsTotalOrder}
use Rattle.std.specs.Cmp.Lexicographic.{pointwise, slice_cmp, texts_ties}
use Rattle.std.specs.List.{AllByRecursion, Any, dedup}
use Rattle.std.specs.List.Sorted.{IsSorted, IsStrictlySortedBy}
use Rattle.std.specs.Ordering.{eq_by_cmp, int_cmp, int_eq, is_eq, nat_cmp, ordering_then}
use Rattle.std.proofs.lemmas.Cmp.{eq_by_cmp_equiv, int_cmp_total, nat_list_cmp_total, on_total, then_total}
use Rattle.std.proofs.lemmas.List.{map-append}
use Rattle.std.proofs.lemmas.List.Elements.{All-contains_itself, All-map, All-weaker}
use Rattle.std.proofs.lemmas.List.Kept.{Any-dedup, Contains-from_dedup, IsStrictlySortedBy-dedup}
use Rattle.std.proofs.lemmas.List.Sorted.{Contains-permutation, IsPermutation-sym}
use Rattle.std.proofs.lemmas.Map.Lookups.{CmpEqualImpliesEq, exact_bytes, exact_signed}
use Rattle.sheet_changes.specs.FieldChanges.{AreSorted, price_day_cmp}
use Rattle.sheet_changes.specs.Inner.Listed.{day_of_pair}

pub mapped_there : {X Y : Type 0} (f : X → Y) (xs : List X) (x : X) → Contains xs x → Contains (map f xs) (f x)
mapped_there f [] x (k, less, is) = absurd (omega arith)
mapped_there f (y ∷ ys) x (zero, less, is) = (0, omega arith, ap f is)
mapped_there f (y ∷ ys) x (suc k, less, is) = let there = mapped_there f ys x (k, omega arith, is) in (suc there.0, omega (arith, there.1), there.2)

module _ {X Y : Type 0} (f : X → Y) {R : Y → Y → Ordering} (total : IsTotalOrder R) (exact : CmpEqualImpliesEq R) {E : X → X → Bool} (ties : (a b : X) → E a b ≡ eq_by_cmp (λ x y. R (f x) (f y)) a b) where
  all_below : (x : X) (ys : List X) → AllByRecursion (λ y. R (f x) (f y) ≡ Less) ys → AllByRecursion (λ z. R (f x) z ≡ Less) (map f ys)
  all_below x [] all = all
  all_below x (y ∷ ys) all = (all.0, all_below x ys all.1)

  strict : (ys : List X) → IsStrictlySortedBy (λ a b. R (f a) (f b)) ys → IsStrictlySortedBy R (map f ys)
  unfolding IsStrictlySortedBy
  strict [] sorted = sorted
  strict (y ∷ ys) sorted = (all_below y ys sorted.0, strict ys sorted.1)

  ordered : IsTotalOrder (λ a b. R (f a) (f b))
  ordered = on_total f total

  same : (a b : X) → E a b ≡ true → f a ≡ f b
  same a b e = exact (f a) (f b) (is_equal (R (f a) (f b)) (sym (ties a b) ∙ e))
    where
      is_equal : (o : Ordering) → is_eq o ≡ true → o ≡ Equal
      is_equal Less h = absurd (let no = h in cc)
      is_equal Equal h = refl
      is_equal Greater h = absurd (let no = h in cc)

  alike : (xs : List X) → dedup E xs ≡ dedup (eq_by_cmp (λ a b. R (f a) (f b))) xs
  alike xs = ap (λ t. dedup t xs) (λ i a b. ties a b i)

  pub are_sorted : (old xs ys : List X) (all : List Y) → map f old ≡ all → IsPermutation old xs → IsSorted (λ a b. R (f a) (f b)) xs → ys ≡ dedup E xs → AreSorted R all (map f ys)
  are_sorted old xs ys all is moved sorted are = subst (λ zs. AreSorted R all (map f zs)) (sym are) (subst (λ zs. AreSorted R zs (map f (dedup E xs))) is (record { each = each; every = every; in_order = strict (dedup E xs) (IsStrictlySortedBy-dedup ordered ties xs sorted) }))
    where
      each : All (Contains (map f old)) (map f (dedup E xs))
      each =
          All-map (Contains (map f old)) f (dedup E xs)
          (All-weaker (Contains (dedup E xs)) (λ x. Contains (map f old) (f x)) (λ x has. mapped_there f old x (Contains-permutation xs old x (IsPermutation-sym old xs moved) (Contains-from_dedup E xs x has))) (dedup E xs) (All-contains_itself (dedup E xs)))

      kept : (x : X) → Contains old x → Contains (map f (dedup E xs)) (f x)
      kept x has =
          let there : Any (λ y. eq_by_cmp (λ a b. R (f a) (f b)) x y ≡ true) (dedup (eq_by_cmp (λ a b. R (f a) (f b))) xs) = Any-dedup (eq_by_cmp_equiv ordered) xs x (Contains-permutation old xs x moved has) in
          subst (Contains (map f (dedup E xs))) (sym (same x there.1 (ties x there.1 ∙ there.4)))
          (mapped_there f (dedup E xs) there.1 (subst (λ zs. Contains zs there.1) (sym (alike xs)) (there.0, there.2, there.3)))

      every : All (Contains (map f (dedup E xs))) (map f old)
      every = All-map (Contains (map f (dedup E xs))) f old (All-weaker (Contains old) (λ x. Contains (map f (dedup E xs)) (f x)) kept old (All-contains_itself old))

-- ---- the days of prices

then_ties : (o p : Ordering) → (is_eq o && is_eq p) ≡ is_eq (ordering_then o p)
then_ties Less p = refl
then_ties Equal p = refl
then_ties Greater p = refl

pub day_total : IsTotalOrder price_day_cmp
day_total = then_total (on_total (λ d. d.sku) nat_list_cmp_total) (on_total (λ d. d.day) int_cmp_total)

pub exact_days : CmpEqualImpliesEq price_day_cmp
exact_days a b e =
    let both = both_equal (slice_cmp nat_cmp a.sku b.sku) (int_cmp a.day b.day) e in
    ap₂ (λ s d. record { sku = s; day = d }) (exact_bytes a.sku b.sku both.0) (exact_signed a.day b.day both.1)
  where
    both_equal : (o p : Ordering) → ordering_then o p ≡ Equal → (o ≡ Equal) × (p ≡ Equal)
    both_equal Less p h = absurd (let no = h in cc)
    both_equal Equal p h = (refl, h)
    both_equal Greater p h = absurd (let no = h in cc)

pub day_ties : (a b : Bor (List ℕ) × ℤ) → (pointwise nat_eq a.0.now b.0.now && int_eq a.1 b.1) ≡ eq_by_cmp (λ x y. price_day_cmp (day_of_pair x) (day_of_pair y)) a b
day_ties a b = ap₂ (λ s t. s && t) (texts_ties a.0.now b.0.now) (int_ties a.1 b.1) ∙ then_ties (slice_cmp nat_cmp a.0.now b.0.now) (int_cmp a.1 b.1)
  where
    int_ties : (x y : ℤ) → int_eq x y ≡ is_eq (int_cmp x y)
    int_ties x y = refl

-- ---- the rows of both sheets

pub of_both : {X Y P : Type 0} (f : X → Y) (g : P → Y) (none first second : List X) (rows more old new : List P) → none ≡ [] → rows ≡ old → more ≡ new → map f first ≡ map f none ++ map g rows → map f second ≡ map f first ++ map g more →
    map f second ≡ map g (old ++ new)
of_both f g none first second rows more old new empty is_old is_new put put_more =
    put_more ∙ ap (λ ys. ys ++ map g more) (put ∙ ap (λ xs. map f xs ++ map g rows) empty) ∙ sym (map-append g rows more) ∙ ap₂ (λ xs ys. map g (xs ++ ys)) is_old is_new

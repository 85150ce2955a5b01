-- Places that are sorted and without repeats rise.
use Rattle.std.proofs.Common.{Ordering, Less, ◌≡◌, Bool, true, ◌&&◌, List, [], ◌∷◌, map, refl, sym, ap, subst, ◌∙◌, arith}
use Rattle.std.specs.Prelude.{◌==◌, ◌↔◌}
use Rattle.std.specs.Cmp.{IsTotalOrder, IsEquivalence}
use Rattle.std.specs.List.{Contains, dedup}
use Rattle.std.specs.List.Sorted.{IsSorted, IsPermutation, IsStrictlySortedBy}
use Rattle.std.specs.Ordering.{nat_cmp, ordering_then, eq_by_cmp}
use Rattle.std.proofs.lemmas.Bool.{and_parts, and_from, eqb-true}
use Rattle.std.proofs.lemmas.Bool.Decides.{nat_tests}
use Rattle.std.proofs.lemmas.Cmp.{then_total, on_total, nat_cmp_total}
use Rattle.std.proofs.lemmas.List.Kept.{Contains-dedup, Contains-from_dedup, IsStrictlySortedBy-dedup}
use Rattle.std.proofs.lemmas.List.Sorted.{Contains-permutation, IsPermutation-sym}
use Rattle.metering_model.specs.Holding.{Position}
use Rattle.batch_store.specs.declared.RecordPlace.{RecordPlace}
use Rattle.batch_store.specs.Stores.{position_of, stands_before, rise}
use Rattle.batch_store.proofs.Members.{map-into, map-from}

-- by the fields in order
abbrev pub place_cmp : RecordPlace → RecordPlace → Ordering
place_cmp a b = ordering_then (nat_cmp a.agent b.agent) (ordering_then (nat_cmp a.seq b.seq) (nat_cmp a.index b.index))

place_total : IsTotalOrder place_cmp
place_total = then_total (on_total (λ p. p.agent) nat_cmp_total) (then_total (on_total (λ p. p.seq) nat_cmp_total) (on_total (λ p. p.index) nat_cmp_total))

before_where_less : (a b : RecordPlace) → place_cmp a b ≡ Less → stands_before (position_of a) (position_of b) ≡ true
before_where_less a b less = grind (arith, nat_tests)

rise_where_sorted : (xs : List RecordPlace) → IsStrictlySortedBy place_cmp xs → rise (map position_of xs) ≡ true
unfolding IsStrictlySortedBy
rise_where_sorted [] sorted = refl
rise_where_sorted (x ∷ []) sorted = refl
rise_where_sorted (x ∷ y ∷ ys) sorted = and_from (stands_before (position_of x) (position_of y)) (rise (map position_of (y ∷ ys))) (before_where_less x y sorted.0.0) (rise_where_sorted (y ∷ ys) sorted.1)

abbrev pub place_eq : RecordPlace → RecordPlace → Bool
place_eq a b = (a.agent == b.agent) && ((a.seq == b.seq) && (a.index == b.index))

place_equivalence : IsEquivalence place_eq
place_equivalence = record {
  refl = λ a. grind (arith, nat_tests);
  symm = λ a b. grind (arith, nat_tests);
  congr = λ a b c same. grind (arith, nat_tests);
}

same_place : (a b : RecordPlace) → place_eq a b ≡ true → a ≡ b
same_place a b same =
    let first = and_parts (a.agent == b.agent) ((a.seq == b.seq) && (a.index == b.index)) same in
    let rest = and_parts (a.seq == b.seq) (a.index == b.index) first.1 in
    let agent = eqb-true a.agent b.agent first.0 in
    let seq = eqb-true a.seq b.seq rest.0 in
    let index = eqb-true a.index b.index rest.1 in
    ap (λ x. record { agent = x; seq = a.seq; index = a.index }) agent
    ∙ (ap (λ x. record { agent = b.agent; seq = x; index = a.index }) seq ∙ ap (λ x. record { agent = b.agent; seq = b.seq; index = x }) index)

ties : (a b : RecordPlace) → place_eq a b ≡ eq_by_cmp place_cmp a b
ties a b = grind (arith, nat_tests)

-- What is sorted rises once its repeats are gone,
pub rise-sorted : (xs ys : List RecordPlace) → IsSorted place_cmp xs → ys ≡ dedup place_eq xs → rise (map position_of ys) ≡ true
rise-sorted xs ys sorted is = ap (λ zs. rise (map position_of zs)) is ∙ rise_where_sorted (dedup place_eq xs) (IsStrictlySortedBy-dedup place_total ties xs sorted)

-- and has the same places as before.
pub same_places : (old xs ys : List RecordPlace) → IsPermutation old xs → ys ≡ dedup place_eq xs → (p : Position) → Contains (map position_of ys) p ↔ Contains (map position_of old) p
same_places old xs ys moved is p = (
  (λ has.
      let image = map-from position_of (dedup place_eq xs) p (subst (λ zs. Contains (map position_of zs) p) is has) in
      map-into position_of old p (record { source = image.source; is_there = Contains-permutation xs old image.source (IsPermutation-sym old xs moved) (Contains-from_dedup place_eq xs image.source image.is_there); gives = image.gives })),
  (λ has.
      let image = map-from position_of old p has in
      subst (λ zs. Contains (map position_of zs) p) (sym is) (map-into position_of (dedup place_eq xs) p (record { source = image.source; is_there = Contains-dedup place_equivalence same_place xs image.source (Contains-permutation old xs image.source moved image.is_there); gives = image.gives }))),
)

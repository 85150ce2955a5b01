-- Of two sheets there is one listing.
use Rattle.std.proofs.Common.{Ordering, Less, ◌≡◌, ◌≢◌, ℕ, zero, suc, List, [], ◌∷◌, ◌++◌, ℤ, pos, refl, sym, ap, ap₂, subst, ◌∙◌, arith, inl, inr, ◌⊎◌, Contains}
use Rattle.std.specs.Prelude.{unsigned_abs}
use Rattle.std.specs.Cmp.{IsTotalOrder}
use Rattle.std.specs.List.{flat_map}
use Rattle.std.specs.List.Sorted.{IsStrictlySortedBy}
use Rattle.std.specs.Cmp.Lexicographic.{slice_cmp}
use Rattle.std.specs.Ordering.{nat_cmp, ordering_reverse}
use Rattle.std.proofs.lemmas.Cmp.{nat_list_cmp_total, tied_itself}
use Rattle.std.proofs.lemmas.List.Elements.{All-contains, All-from_recursion}
use Rattle.jiff_core.proofs.DateLemmas.{epoch_day_injective}
use Rattle.jiff_core.proofs.SignedLemmas.{signed_arith}
use Rattle.metering_model.specs.Dates.{IsDayText, day_text}
use Rattle.metering_model.specs.Sheet.{Sheet}
use Rattle.sheet_changes.specs.FieldChanges.{AreSorted, ListsFields, ListsPrices, PriceDay, commitment_lines, price_day_cmp, price_lines, region_line}
use Rattle.sheet_changes.proofs.SortedLists.{day_total}

first_or_behind : {X : Type 0} (x : X) (xs : List X) (y : X) → Contains (x ∷ xs) y → (x ≡ y) ⊎ Contains xs y
first_or_behind x xs y (zero, less, is) = inl is
first_or_behind x xs y (suc k, less, is) = inr (k, omega arith, is)

here : {X : Type 0} (xs : List X) (y : X) → Contains (y ∷ xs) y
here xs y = (0, omega arith, refl)

there : {X : Type 0} (x : X) (xs : List X) (y : X) → Contains xs y → Contains (x ∷ xs) y
there x xs y (k, less, is) = (suc k, omega arith, is)

none_there : {X : Type 0} (y : X) → Contains [] y → ⊥
none_there y (k, less, is) = absurd (omega arith)

-- ---- lists in order that have the same elements

module _ {K : Type 0} (R : K → K → Ordering) (total : IsTotalOrder R) where
  never_before_itself : (x : K) → R x x ≢ Less
  never_before_itself x e = absurd (let no = sym e ∙ tied_itself total x in cc)

  never_both : (x y : K) → R x y ≡ Less → R y x ≢ Less
  never_both x y e f = absurd (let no = sym e ∙ (total.antisymm x y ∙ ap ordering_reverse f) in cc)

  below_rest : (x : K) (xs : List K) → IsStrictlySortedBy R (x ∷ xs) → (y : K) → Contains xs y → R x y ≡ Less
  unfolding IsStrictlySortedBy
  below_rest x xs sorted y has = All-contains (λ z. R x z ≡ Less) xs y (All-from_recursion (λ z. R x z ≡ Less) xs sorted.0) has

  rest_sorted : (x : K) (xs : List K) → IsStrictlySortedBy R (x ∷ xs) → IsStrictlySortedBy R xs
  unfolding IsStrictlySortedBy
  rest_sorted x xs sorted = sorted.1

  same_first : (x : K) (xs : List K) (y : K) (ys : List K) → IsStrictlySortedBy R (x ∷ xs) → IsStrictlySortedBy R (y ∷ ys) → ((z : K) → Contains (x ∷ xs) z → Contains (y ∷ ys) z) → ((z : K) → Contains (y ∷ ys) z → Contains (x ∷ xs) z) → x ≡ y
  same_first x xs y ys up_x up_y into back = elim (first_or_behind y ys x (into x (here xs x))) [
    | inl same ↦ sym same
    | inr behind ↦ by_back (first_or_behind x xs y (back y (here ys y))) (below_rest y ys up_y x behind)
  ]
    where
      by_back : (x ≡ y) ⊎ Contains xs y → R y x ≡ Less → x ≡ y
      by_back (inl same) less = same
      by_back (inr behind) less = absurd (never_both y x less (below_rest x xs up_x y behind))

  same_rest : (x : K) (xs ys : List K) → IsStrictlySortedBy R (x ∷ xs) → ((z : K) → Contains (x ∷ xs) z → Contains (x ∷ ys) z) → (z : K) → Contains xs z → Contains ys z
  same_rest x xs ys up into z has = elim (first_or_behind x ys z (into z (there x xs z has))) [
    | inl same ↦ absurd (never_before_itself z (subst (λ w. R w z ≡ Less) same (below_rest x xs up z has)))
    | inr behind ↦ behind
  ]

  one_order : (xs ys : List K) → IsStrictlySortedBy R xs → IsStrictlySortedBy R ys → ((z : K) → Contains xs z → Contains ys z) → ((z : K) → Contains ys z → Contains xs z) → xs ≡ ys
  one_order [] [] up_x up_y into back = refl
  one_order [] (y ∷ ys) up_x up_y into back = absurd (none_there y (back y (here ys y)))
  one_order (x ∷ xs) [] up_x up_y into back = absurd (none_there x (into x (here xs x)))
  one_order (x ∷ xs) (y ∷ ys) up_x up_y into back =
      let first = same_first x xs y ys up_x up_y into back in
      by_first (one_order xs ys) first (subst (λ w. IsStrictlySortedBy R (w ∷ ys)) (sym first) up_y) (λ z has. subst (λ w. Contains (w ∷ ys) z) (sym first) (into z has)) (λ z has. back z (subst (λ w. Contains (w ∷ ys) z) first has))
    where
      by_first : (IsStrictlySortedBy R xs → IsStrictlySortedBy R ys → ((z : K) → Contains xs z → Contains ys z)
          → ((z : K) → Contains ys z → Contains xs z) → xs ≡ ys) → x ≡ y → IsStrictlySortedBy R (x ∷ ys)
          → ((z : K) → Contains (x ∷ xs) z → Contains (x ∷ ys) z) → ((z : K) → Contains (x ∷ ys) z → Contains (x ∷ xs) z) → x ∷ xs ≡ y ∷ ys
      by_first rest first up to from =
          ap₂ (λ a more. a ∷ more) first (rest (rest_sorted x xs up_x) (rest_sorted x ys up) (same_rest x xs ys up_x to) (same_rest x ys xs up from))

  pub one_sort : (all xs ys : List K) → AreSorted R all xs → AreSorted R all ys → xs ≡ ys
  one_sort all xs ys one other =
      one_order xs ys one.in_order other.in_order
      (λ z has. All-contains (Contains ys) all z other.every (All-contains (Contains all) xs z one.each has))
      (λ z has. All-contains (Contains xs) all z one.every (All-contains (Contains all) ys z other.each has))

-- ---- the text of a day

pub one_date : (s t : List ℕ) (n : ℤ) → IsDayText s n → IsDayText t n → s ≡ t
one_date s t n one other =
    let same =
    epoch_day_injective
    (record { year = pos one.year; month = one.month; day = one.day; year_in = omega (arith, signed_arith, one.year_in); month_in = one.month_in; day_in = one.day_in })
    (record { year = pos other.year; month = other.month; day = other.day; year_in = omega (arith, signed_arith, other.year_in); month_in = other.month_in; day_in = other.day_in })
    (sym one.number ∙ other.number) in
    one.joined ∙ (λ i. day_text (unsigned_abs (same.0 i)) (same.1 i) (same.2 i)) ∙ sym other.joined

-- ---- the listing

module _ (old new : Sheet) where
  one_of_prices : (days : List PriceDay) (s t : List ℕ) → ListsPrices old new days s → ListsPrices old new days t → s ≡ t
  one_of_prices [] s t one other = one ∙ sym other
  one_of_prices (d ∷ ds) s t one other =
      one.4 ∙ (ap₂ (λ date rest. price_lines old new d date ++ rest) (one_date one.0 other.0 d.day one.2 other.2) (one_of_prices ds one.1 other.1 one.3 other.3) ∙ sym other.4)

  pub one_listing : (s t : List ℕ) → ListsFields old new s → ListsFields old new t → t ≡ s
  one_listing s t one other =
      let days = one_sort price_day_cmp day_total _ other.days one.days other.are_days one.are_days in
      let prices = one_of_prices one.days other.prices one.prices (subst (λ ds. ListsPrices old new ds other.prices) days other.are_prices) one.are_prices in
      let commitments = one_sort (slice_cmp nat_cmp) nat_list_cmp_total _ other.commitments one.commitments other.are_commitments one.are_commitments in
      let regions = one_sort (slice_cmp nat_cmp) nat_list_cmp_total _ other.regions one.regions other.are_regions one.are_regions in
      other.joined ∙ ((λ i. prices i ++ flat_map (commitment_lines old new) (commitments i) ++ flat_map (region_line old new) (regions i)) ∙ sym one.joined)

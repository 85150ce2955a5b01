-- Where the amendments of a position stand among sorted ones.
use Rattle.std.proofs.Common.{◌≡◌, ℕ, ◌-◌, ◌<◌, ◌≤◌, leb, Bool, true, false, List, length, All, get_or, nat_lt, refl, sym, ap, subst, ◌∙◌, arith}
use Rattle.std.specs.List.Sorted.{IsNonDecreasingBy}
use Rattle.std.proofs.lemmas.Bool.{ltb-true, ltb-false, le-leb, leb-true}
use Rattle.std.proofs.lemmas.List.{get_or_default}
use Rattle.batch_view.specs.Inner.Amended.{rank, rank_of, IsSmall, Names, IsPointOf, IsLastNamed}
use Rattle.batch_view.specs.declared.owned.Amendment.{Amendment}

module _ (xs : List Amendment) (seq index b : ℕ) (small : All IsSmall xs) (point : IsPointOf seq index xs b) where
  pub named_before : (k : ℕ) (d : Amendment) → k < length xs → Names seq index (get_or xs k d) → k < b
  named_before k d within named = by_test (nat_lt k b) refl
    where
      ranked : rank (get_or xs k d) ≤ rank_of seq index 65_535
      ranked = let s = small k d within in omega (arith, s.1, named.0, named.1)

      by_test : (t : Bool) → nat_lt k b ≡ t → k < b
      by_test true e = ltb-true _ _ e
      by_test false e =
          let greater = point.1 k d (ltb-false _ _ e) within in
          let not_greater = le-leb _ _ ranked in
          absurd (cc (greater, not_greater))

  module _ (rising : IsNonDecreasingBy rank xs) (within : b ≤ length xs) (some : 0 < b) (last : Amendment) (is : last ≡ get_or xs (b - 1) last) where
    last_small : IsSmall last
    last_small = subst IsSmall (sym is) (small (b - 1) last (omega arith))

    last_ranked : rank last ≤ rank_of seq index 65_535
    last_ranked = leb-true _ _ (ap (λ y. leb (rank y) (rank_of seq index 65_535)) is ∙ point.0 (b - 1) last (omega arith) (omega arith))

    below_last : (k : ℕ) (d : Amendment) → k < length xs → Names seq index (get_or xs k d) → rank (get_or xs k d) ≤ rank last
    below_last k d h named =
        let before = named_before k d h named in
        let up = rising k (b - 1) d (omega arith) (omega arith) in
        subst (λ y. rank (get_or xs k d) ≤ rank y) (same d ∙ sym is) up
      where
        same : (d : Amendment) → get_or xs (b - 1) d ≡ get_or xs (b - 1) last
        same d = get_or_default xs (b - 1) d last (omega arith)

    -- where any names the position, the last one before the place does
    pub last_names : index < 65_536 → (k : ℕ) (d : Amendment) → k < length xs → Names seq index (get_or xs k d) → Names seq index last
    last_names fits k d h named =
        let low = below_last k d h named in
        let s = last_small in
        let high = last_ranked in
        (omega (arith, low, high, s.0, s.1, named.0, named.1), omega (arith, low, high, s.0, s.1, named.0, named.1))

    pub last_is_last : Names seq index last → IsLastNamed xs seq index last
    last_is_last named = record {
      found = (b - 1, omega arith, sym is);
      named = named;
      others = λ k d h other. let low = below_last k d h other in omega (arith, low, named.0, named.1, other.0, other.1);
    }

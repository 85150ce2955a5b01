-- A reading that nothing amends between two cuts has the same value at both, so it has no row.
use Rattle.std.proofs.Common.{◌≡◌, ℕ, ◌<◌, ◌≤◌, Bool, true, false, ◌&&◌, List, [], ◌∷◌, filter, refl, sym, ap, subst, ◌∙◌, arith, Option, Some, None, cond, nat_lt, nat_le, pos, unwrap_or, ℤ}
use Rattle.std.specs.Prelude.{◌==◌}
use Rattle.std.specs.List.{filter_map, cons_option, last_or, Contains}
use Rattle.std.proofs.lemmas.Bool.{and_parts, and_from, cond-true, cond-false, leb-true, le-leb, le-ltb, eqb-true, false_from_ne_true, lt-ltb}
use Rattle.std.proofs.lemmas.Bool.Decides.{nat_tests}
use Rattle.std.proofs.lemmas.List.Elements.{Contains-append_right}
use Rattle.metering_model.specs.Batch.{Record, Reads, Amends}
use Rattle.metering_model.specs.Cut.{Cut, IsAtLeast, last_of}
use Rattle.metering_model.specs.Holding.{Holding, Position, Placed, records_in_order, is_same_place}
use Rattle.metering_model.specs.ValueAtSequence.{value_at, value_given_by}
use Rattle.metering_model.proofs.AgreementLaws.{last_of_grows}
use Rattle.metering_model.proofs.ValueBounds.{same_place_is}
use Rattle.journal_rules.specs.Stores.{named_by, named_between}

-- ---- the law over holdings

contains_first : (x : Position) (xs : List Position) → Contains (x ∷ xs) x
contains_first x xs = (0, omega arith, refl)

contains_behind : (y x : Position) (xs : List Position) → Contains xs x → Contains (y ∷ xs) x
contains_behind y x xs has = Contains-append_right (y ∷ []) xs x has

module _ (from to : Cut) (p : Position) where
  abbrev names : Placed → Option Position
  names x = named_by from to x.place x.what

  -- whether a record is of the reading's agent, up to a cut
  abbrev is_until : ℕ → Placed → Bool
  is_until upto x = (x.place.agent == p.agent) && nat_le x.place.seq upto

  -- a record between the cuts that does not name the place gives it no value
  gives_none : last_of from p.agent ≤ last_of to p.agent → p.seq ≤ last_of from p.agent → (x : Placed) → (names x ≡ Some p → ⊥)
      → is_until (last_of from p.agent) x ≡ false → is_until (last_of to p.agent) x ≡ true → value_given_by p x ≡ None
  gives_none grows low x other before within = by_record x.place x.what (above x before within) other
    where
      above : (x : Placed) → is_until (last_of from p.agent) x ≡ false → is_until (last_of to p.agent) x ≡ true
          → (x.place.agent ≡ p.agent) × (last_of from p.agent < x.place.seq) × (x.place.seq ≤ last_of to p.agent)
      above x e f =
          let parts = and_parts (x.place.agent == p.agent) (nat_le x.place.seq (last_of to p.agent)) f in
          let agent = eqb-true x.place.agent p.agent parts.0 in
          let later = leb-true x.place.seq (last_of to p.agent) parts.1 in
          (agent, past x.place.agent x.place.seq agent e, later)
        where
          past : (a s : ℕ) → a ≡ p.agent → ((a == p.agent) && nat_le s (last_of from p.agent)) ≡ false → last_of from p.agent < s
          past a s e f = grind (arith, nat_tests)

      not_same : (at : Position) → last_of from p.agent < at.seq → is_same_place p at ≡ false
      not_same at less = grind (arith, nat_tests)

      by_record : (at : Position) (what : Record) → (at.agent ≡ p.agent) × (last_of from p.agent < at.seq) × (at.seq ≤ last_of to p.agent)
          → (named_by from to at what ≡ Some p → ⊥) → value_given_by p (record { place = at; what = what }) ≡ None
      by_record at (Reads r) between unnamed = cond-false (is_same_place p at) (Some r.value) None (not_same at between.1)
      by_record at (Amends seq index value) between unnamed =
          let target : Position = record { agent = at.agent; seq = seq; index = index } in
          cond-false (is_same_place p target) (Some value) None (false_from_ne_true _ (λ same.
          let is : p ≡ target = same_place_is p target same in
          let seqs : p.seq ≡ seq = ap (λ (q : Position). q.seq) is in
          let at_from : last_of from at.agent ≡ last_of from p.agent = ap (last_of from) between.0 in
          let at_to : last_of to at.agent ≡ last_of to p.agent = ap (last_of to) between.0 in
          let tests : (nat_lt (last_of from at.agent) at.seq && nat_le at.seq (last_of to at.agent) && nat_le seq (last_of from at.agent)) ≡ true =
          and_from _ _ (and_from _ _ (lt-ltb (last_of from at.agent) at.seq (omega (arith, between.1))) (le-leb at.seq (last_of to at.agent) (omega (arith, between.2)))) (le-leb seq (last_of from at.agent) (omega arith)) in
          unnamed (cond-true _ (Some target) None tests ∙ ap Some (sym is))))

  given_alike : last_of from p.agent ≤ last_of to p.agent → p.seq ≤ last_of from p.agent → (xs : List Placed) → (Contains (filter_map names xs) p → ⊥)
      → filter_map (value_given_by p) (filter (is_until (last_of from p.agent)) xs) ≡ filter_map (value_given_by p) (filter (is_until (last_of to p.agent)) xs)
  given_alike grows low [] unnamed = refl
  given_alike grows low (x ∷ xs) unnamed = by_tests (is_until (last_of from p.agent) x) (is_until (last_of to p.agent) x) refl refl
      (given_alike grows low xs (λ has. unnamed (behind (names x) has)))
    where
      behind : (o : Option Position) → Contains (filter_map names xs) p → Contains (cons_option o (filter_map names xs)) p
      behind None has = has
      behind (Some q) has = contains_behind q p (filter_map names xs) has

      here : (o : Option Position) → names x ≡ o → o ≡ Some p → Contains (cons_option o (filter_map names xs)) p
      here None e f = absurd (cc)
      here (Some q) e f = let same : q ≡ p = cc in subst (λ r. Contains (r ∷ filter_map names xs) p) (sym same) (contains_first p (filter_map names xs))

      other : names x ≡ Some p → ⊥
      other e = unnamed (here (names x) refl e)

      still : is_until (last_of from p.agent) x ≡ true → is_until (last_of to p.agent) x ≡ true
      still e =
          let parts = and_parts (x.place.agent == p.agent) (nat_le x.place.seq (last_of from p.agent)) e in
          and_from _ _ parts.0 (le-leb x.place.seq (last_of to p.agent) (let low = leb-true x.place.seq (last_of from p.agent) parts.1 in omega arith))

      by_tests : (s t : Bool) → is_until (last_of from p.agent) x ≡ s → is_until (last_of to p.agent) x ≡ t
          → filter_map (value_given_by p) (filter (is_until (last_of from p.agent)) xs) ≡ filter_map (value_given_by p) (filter (is_until (last_of to p.agent)) xs)
          → filter_map (value_given_by p) (cond s (x ∷ filter (is_until (last_of from p.agent)) xs) (filter (is_until (last_of from p.agent)) xs))
          ≡ filter_map (value_given_by p) (cond t (x ∷ filter (is_until (last_of to p.agent)) xs) (filter (is_until (last_of to p.agent)) xs))
      by_tests true true e f rest = ap (cons_option (value_given_by p x)) rest
      by_tests false false e f rest = rest
      by_tests true false e f rest = let t = still e in absurd (cc)
      by_tests false true e f rest = rest ∙ sym (ap (λ o. cons_option o (filter_map (value_given_by p) (filter (is_until (last_of to p.agent)) xs))) (gives_none grows low x other e f))

-- A reading up to a cut that no amendment above it and up to a later one names has one value at both.
pub same_at_both : (h : Holding) (from to : Cut) (p : Position) → IsAtLeast to from → p.seq ≤ last_of from p.agent → (Contains (named_between h from to) p → ⊥)
    → value_at h p (last_of from p.agent) ≡ value_at h p (last_of to p.agent)
same_at_both h from to p grows low unnamed =
    let more = last_of_grows from to p.agent grows in
    cond-false (nat_lt (last_of from p.agent) p.seq) _ _ (le-ltb (last_of from p.agent) p.seq low)
    ∙ (ap (λ (vs : List ℤ). unwrap_or (last_or None vs) (pos 0)) (given_alike from to p more low (records_in_order h) unnamed)
    ∙ sym (cond-false (nat_lt (last_of to p.agent) p.seq) _ _ (le-ltb (last_of to p.agent) p.seq (omega arith))))

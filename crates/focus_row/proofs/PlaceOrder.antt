-- Positions that rise.
use Rattle.std.proofs.Common.{◌≡◌, ℕ, zero, suc, ◌+◌, ◌<◌, ◌≤◌, Bool, true, false, List, [], ◌∷◌, length, map, get_or, refl, sym, ap, subst, ◌∙◌, arith, Some, None, option_map, inl, inr}
use Rattle.std.specs.Prelude.{slice_get}
use Rattle.std.specs.List.{list_all, Contains}
use Rattle.std.proofs.lemmas.Bool.{and_parts, and_from, both_ways, cases_lt}
use Rattle.std.proofs.lemmas.Bool.Decides.{nat_tests}
use Rattle.std.proofs.lemmas.Option.{same_Some, none-some, slice_get-map, slice_get-get_or, slice_get_past, get_or_from_slice_get, slice_get_within}
use Rattle.metering_model.specs.Holding.{Position}
use Rattle.journal_rules.specs.declared.RecordPlace.{RecordPlace}
use Rattle.journal_rules.specs.Stores.{position_of, stands_before, rise}
use Rattle.focus_row.specs.Inner.Places.{IsFirstFrom, IsNextNamed, NoneNamed}

-- the position of the place at an index
pub position_at : (xs : List RecordPlace) (k : ℕ) (d : RecordPlace) → k < length xs → slice_get (map position_of xs) k ≡ Some (position_of (get_or xs k d))
position_at xs k d inside = slice_get-map position_of xs k ∙ ap (option_map position_of) (slice_get-get_or xs k d inside)

-- a place that was found at an index
pub found_at : (xs : List RecordPlace) (k : ℕ) (x : RecordPlace) → (k < length xs) × ((d : RecordPlace) → x ≡ get_or xs k d) → slice_get (map position_of xs) k ≡ Some (position_of x)
found_at xs k x (inside, is) = position_at xs k x inside ∙ ap (λ p. Some (position_of p)) (sym (is x))

-- past the end there is none
pub none_past : (xs : List RecordPlace) (k : ℕ) → length xs ≤ k → slice_get (map position_of xs) k ≡ None
none_past xs k beyond = slice_get-map position_of xs k ∙ ap (option_map position_of) (slice_get_past xs k beyond)

pub before-trans : (p q r : Position) → stands_before p q ≡ true → stands_before q r ≡ true → stands_before p r ≡ true
before-trans p q r e f = grind (arith, nat_tests)

pub before_below : (p q r : Position) → stands_before p q ≡ true → stands_before p r ≡ false → stands_before q r ≡ false
before_below p q r e f = grind (arith, nat_tests)

all_before : (p q : Position) (ps : List Position) → stands_before p q ≡ true → list_all (stands_before q) ps ≡ true → list_all (stands_before p) ps ≡ true
all_before p q [] e all = refl
all_before p q (r ∷ ps) e all =
    let parts = and_parts (stands_before q r) (list_all (stands_before q) ps) all in
    and_from (stands_before p r) (list_all (stands_before p) ps) (before-trans p q r e parts.0) (all_before p q ps e parts.1)

rise_parts : (p : Position) (ps : List Position) → rise (p ∷ ps) ≡ true → (list_all (stands_before p) ps ≡ true) × (rise ps ≡ true)
rise_parts p [] e = (refl, refl)
rise_parts p (q ∷ ps) e =
    let parts = and_parts (stands_before p q) (rise (q ∷ ps)) e in
    let rest = rise_parts q ps parts.1 in
    (and_from (stands_before p q) (list_all (stands_before p) ps) parts.0 (all_before p q ps parts.0 rest.0), parts.1)

all_at : (test : Position → Bool) (ps : List Position) (k : ℕ) (p : Position) → list_all test ps ≡ true → slice_get ps k ≡ Some p → test p ≡ true
all_at test [] k p all e = absurd (none-some p e)
all_at test (q ∷ ps) zero p all e = subst (λ x. test x ≡ true) (same_Some q p e) (and_parts (test q) (list_all test ps) all).0
all_at test (q ∷ ps) (suc k) p all e = all_at test ps k p (and_parts (test q) (list_all test ps) all).1 e

-- of two positions the earlier stands before the later
pub rises_at : (ps : List Position) (k l : ℕ) (p q : Position) → rise ps ≡ true → slice_get ps k ≡ Some p → slice_get ps l ≡ Some q → k < l → stands_before p q ≡ true
rises_at [] k l p q rises e f less = absurd (none-some p e)
rises_at (x ∷ ps) k zero p q rises e f less = absurd (omega arith)
rises_at (x ∷ ps) zero (suc l) p q rises e f less =
    subst (λ y. stands_before y q ≡ true) (same_Some x p e) (all_at (stands_before x) ps l q (rise_parts x ps rises).0 f)
rises_at (x ∷ ps) (suc k) (suc l) p q rises e f less = rises_at ps k l p q (rise_parts x ps rises).1 e f (omega arith)

-- what is before the middle is before it, and so before what the middle is before
pub before_middle : (ps : List Position) (m k : ℕ) (p q r : Position) → rise ps ≡ true → slice_get ps m ≡ Some p → stands_before p r ≡ true → slice_get ps k ≡ Some q → k < m + 1 → stands_before q r ≡ true
before_middle ps m k p q r rises at before e less = elim (cases_lt k m) [
  | inl below ↦ before-trans q p r (rises_at ps k m q p rises e at below) before
  | inr here ↦ let same : k ≡ m = omega arith in subst (λ x. stands_before x r ≡ true) (same_Some p q (sym at ∙ (ap (slice_get ps) (sym same) ∙ e))) before
]

pub behind_middle : (ps : List Position) (m k : ℕ) (p q r : Position) → rise ps ≡ true → slice_get ps m ≡ Some p → stands_before p r ≡ false → slice_get ps k ≡ Some q → m ≤ k → stands_before q r ≡ false
behind_middle ps m k p q r rises at behind e from = elim (cases_lt m k) [
  | inl above ↦ before_below p q r (rises_at ps m k p q rises at e above) behind
  | inr here ↦ let same : m ≡ k = omega arith in subst (λ x. stands_before x r ≡ false) (same_Some p q (sym at ∙ (ap (slice_get ps) same ∙ e))) behind
]

-- ---- what is found

-- a position that is one of them stands somewhere
index_of : (ps : List Position) (p : Position) → Contains ps p → (k : ℕ) × (slice_get ps k ≡ Some p)
index_of ps p (k, inside, is) = (k, slice_get-get_or ps k p inside ∙ ap Some is)

contains_at : (ps : List Position) (k : ℕ) (p : Position) → slice_get ps k ≡ Some p → Contains ps p
contains_at ps k p e = (k, slice_get_within ps k p e, get_or_from_slice_get ps k p p e)

-- past their end there is none
past : (ps : List Position) (i k : ℕ) → slice_get ps i ≡ None → i ≤ k → k < length ps → ⊥
past [] i k e from inside = omega arith
past (x ∷ ps) zero k e from inside = cc
past (x ∷ ps) (suc i) zero e from inside = omega arith
past (x ∷ ps) (suc i) (suc k) e from inside = past ps i k e (omega arith) (omega arith)

not_before_itself : (p : Position) → stands_before p p ≡ false
not_before_itself p = grind (arith, nat_tests)

same_where_neither : (p q : Position) → stands_before p q ≡ false → stands_before q p ≡ false → p ≡ q
same_where_neither p q e f =
    let agent : p.agent ≡ q.agent = grind (arith, nat_tests) in
    let seq : p.seq ≡ q.seq = grind (arith, nat_tests) in
    let index : p.index ≡ q.index = grind (arith, nat_tests) in
    ap (λ (x : ℕ). let r : Position = record { agent = x; seq = p.seq; index = p.index } in r) agent
    ∙ (ap (λ (x : ℕ). let r : Position = record { agent = q.agent; seq = x; index = p.index } in r) seq
    ∙ ap (λ (x : ℕ). let r : Position = record { agent = q.agent; seq = q.seq; index = x } in r) index)

module _ (ps : List Position) (p : Position) (at : ℕ) (first : IsFirstFrom ps p at) where
  -- a position that is not before it stands no earlier
  stands_from : (k : ℕ) (q : Position) → slice_get ps k ≡ Some q → stands_before q p ≡ false → at ≤ k
  stands_from k q e behind = elim (cases_lt k at) [
    | inl below ↦ absurd (both_ways (stands_before q p) behind (first.before k q e below))
    | inr from ↦ from
  ]

  pub named_if_first : (q : Position) → slice_get ps at ≡ Some q → stands_before p q ≡ false → Contains ps p
  named_if_first q e later = subst (Contains ps) (same_where_neither q p (first.behind at q e (omega arith)) later) (contains_at ps at q e)

  pub first_if_named : (rises : rise ps ≡ true) → Contains ps p → (q : Position) → slice_get ps at ≡ Some q → stands_before p q ≡ false
  first_if_named rises has q e =
      let found = index_of ps p has in
      let from = stands_from found.0 p found.1 (not_before_itself p) in
      elim (cases_lt at found.0) [
        | inl above ↦ let before = rises_at ps at found.0 q p rises e found.1 above in absurd (both_ways (stands_before q p) (first.behind at q e (omega arith)) before)
        | inr here ↦ let same : at ≡ found.0 = omega arith in subst (λ x. stands_before p x ≡ false) (same_Some p q (sym found.1 ∙ (ap (slice_get ps) (sym same) ∙ e))) (not_before_itself p)
      ]

  pub none_if_past : slice_get ps at ≡ None → Contains ps p → ⊥
  none_if_past e has =
      let found = index_of ps p has in
      let from = stands_from found.0 p found.1 (not_before_itself p) in
      let inside = slice_get_within ps found.0 p found.1 in
      past ps at found.0 e from inside

not_before_start : (p : Position) (agent seq : ℕ) → p.agent ≡ agent → seq ≤ p.seq → stands_before p (record { agent = agent; seq = seq; index = 0 }) ≡ false
not_before_start p agent seq e from = grind (arith, nat_tests)

from_start : (p : Position) (agent seq : ℕ) → p.agent ≡ agent → stands_before p (record { agent = agent; seq = seq; index = 0 }) ≡ false → seq ≤ p.seq
from_start p agent seq e behind = grind (arith, nat_tests)

agent_from_start : (p : Position) (agent seq : ℕ) → stands_before p (record { agent = agent; seq = seq; index = 0 }) ≡ false → agent ≤ p.agent
agent_from_start p agent seq behind = grind (arith, nat_tests)

later_place : (p q : Position) → stands_before p q ≡ true → (p.agent ≤ q.agent) × (p.agent ≡ q.agent → p.seq ≤ q.seq)
later_place p q e = (grind (arith, nat_tests), λ same. grind (arith, nat_tests))

module _ (ps : List Position) (agent seq at : ℕ) (rises : rise ps ≡ true) (first : IsFirstFrom ps (record { agent = agent; seq = seq; index = 0 }) at) where
  -- each of the agent's from the sequence on stands at the first or behind it
  first_of : (q : Position) → slice_get ps at ≡ Some q → (p : Position) → Contains ps p → p.agent ≡ agent → seq ≤ p.seq → (q.agent ≤ agent) × (q.agent ≡ agent → q.seq ≤ p.seq)
  first_of q e p has same from =
      let found = index_of ps p has in
      let later = stands_from ps _ at first found.0 p found.1 (not_before_start p agent seq same from) in
      elim (cases_lt at found.0) [
        | inl above ↦ let order = later_place q p (rises_at ps at found.0 q p rises e found.1 above) in
            (omega (arith, order.0), λ own. order.1 (own ∙ sym same))
        | inr here ↦
            let at_it : at ≡ found.0 = omega arith in
            let is : p ≡ q = same_Some p q (sym found.1 ∙ (ap (slice_get ps) (sym at_it) ∙ e)) in
            let agents : p.agent ≡ q.agent = ap (λ (x : Position). x.agent) is in
            let seqs : p.seq ≡ q.seq = ap (λ (x : Position). x.seq) is in
            (omega arith, λ own. omega arith)
      ]

  pub next_if_own : (q : Position) → slice_get ps at ≡ Some q → q.agent ≡ agent → IsNextNamed ps agent seq q.seq
  next_if_own q e own = record {
    place = q;
    named = contains_at ps at q e;
    of_agent = own;
    of_batch = refl;
    not_before = from_start q agent seq own (first.behind at q e (omega arith));
    least = λ p has same from. (first_of q e p has same from).1 own;
  }

  pub none_if_other : (q : Position) → slice_get ps at ≡ Some q → (q.agent ≡ agent → ⊥) → NoneNamed ps agent seq
  none_if_other q e other = record {
    none = λ p has same from.
        let low = (first_of q e p has same from).0 in
        let high = agent_from_start q agent seq (first.behind at q e (omega arith)) in
        other (omega arith);
  }

  pub none_if_end : slice_get ps at ≡ None → NoneNamed ps agent seq
  none_if_end e = record {
    none = λ p has same from.
        let found = index_of ps p has in
        let later = stands_from ps _ at first found.0 p found.1 (not_before_start p agent seq same from) in
        let inside = slice_get_within ps found.0 p found.1 in
        past ps at found.0 e later inside;
  }

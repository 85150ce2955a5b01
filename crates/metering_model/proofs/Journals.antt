-- The journals meet the journal rules after each batch that they take.
use Rattle.std.proofs.Common.{◌≡◌, ℕ, zero, suc, ◌+◌, ◌<◌, ◌≤◌, Bool, true, false, ◌&&◌, cond, List, [], ◌∷◌, ◌++◌, length, map, filter, refl, sym, ap, subst, ◌∙◌, arith, Option, Some, None, inl, inr, nat_lt}
use Rattle.std.specs.Prelude.{◌==◌, slice_get, if◌then◌else◌}
use Rattle.std.specs.List.{list_all, range_with_len}
use Rattle.std.specs.Option.{option_and_then}
use Rattle.std.proofs.lemmas.Bool.{and_parts, and_from, cond-false, cases_Bool, eqb-true, eq-eqb, ltb-true, lt-ltb, both_ways}
use Rattle.std.proofs.lemmas.Option.{none-some}
use Rattle.std.proofs.lemmas.Bool.Decides.{nat_tests}
use Rattle.metering_model.specs.declared.BrokenRule.{BrokenRule}
use Rattle.metering_model.specs.declared.BrokenRule.TheVariants.{BadTarget}
use Rattle.metering_model.specs.Batch.{Batch, IsWellFormed, Record, Reading, Reads, Amends}
use Rattle.metering_model.specs.Sheet.{Sheet}
use Rattle.metering_model.specs.Holding.{Holding, comes_before, is_in_order, is_batch_at, held, put, sequences_of, Position, Placed, placed, records_in_order, reading_of}
use Rattle.metering_model.specs.JournalRules.{MeetsJournalRules, next_seq, broken_by, first_broken, comes_earlier, is_fit_target}
use Rattle.metering_model.proofs.BatchOrder.{put_cases, in_order_parts, place_of_batch}
use Rattle.metering_model.proofs.HoldingLaws.{IsHolding-nil, IsHolding-put, held-put_kept}

-- ---- the sequences of an agent

abbrev of_agent : ℕ → Holding → Holding
of_agent a h = filter (λ b. b.agent == a) h

abbrev map_seq : Holding → List ℕ
map_seq h = map (λ b. b.seq) h

pub sequences-of_agent : (a : ℕ) (c : Batch) (h : Holding) → (c.agent == a) ≡ true → sequences_of a (c ∷ h) ≡ c.seq ∷ sequences_of a h
sequences-of_agent a c h e = by_test (c.agent == a) e
  where
    by_test : (t : Bool) → t ≡ true → map_seq (cond t (c ∷ of_agent a h) (of_agent a h)) ≡ c.seq ∷ sequences_of a h
    by_test true e = refl
    by_test false e = absurd (both_ways false refl e)

pub sequences-of_another : (a : ℕ) (c : Batch) (h : Holding) → (c.agent == a) ≡ false → sequences_of a (c ∷ h) ≡ sequences_of a h
sequences-of_another a c h e = by_test (c.agent == a) e
  where
    by_test : (t : Bool) → t ≡ false → map_seq (cond t (c ∷ of_agent a h) (of_agent a h)) ≡ sequences_of a h
    by_test false e = refl
    by_test true e = absurd (both_ways true e refl)

-- what is said of a holding with a first batch, by whether that is the agent's
of_agent_cases : (P : List ℕ → Type 0) (a : ℕ) (c : Batch) (h : Holding) → (c.agent ≡ a → P (c.seq ∷ sequences_of a h)) → ((c.agent == a) ≡ false → P (sequences_of a h)) → P (sequences_of a (c ∷ h))
of_agent_cases P a c h own other = elim (cases_Bool (c.agent == a)) [
  | inl e ↦ subst P (sym (sequences-of_agent a c h e)) (own (eqb-true c.agent a e))
  | inr e ↦ subst P (sym (sequences-of_another a c h e)) (other e)
]

sequences-put_other : (h : Holding) (b : Batch) (a : ℕ) → (b.agent == a) ≡ false → sequences_of a (put h b) ≡ sequences_of a h
sequences-put_other [] b a other = sequences-of_another a b [] other
sequences-put_other (c ∷ h) b a other =
    let rest = sequences-put_other h b a other in
    put_cases (λ k. sequences_of a k ≡ sequences_of a (c ∷ h)) b c h
    (λ _. sequences-of_another a b (c ∷ h) other)
    (λ _. elim (cases_Bool (c.agent == a)) [
      | inl e ↦ sequences-of_agent a c (put h b) e ∙ (ap (λ xs. c.seq ∷ xs) rest ∙ sym (sequences-of_agent a c h e))
      | inr e ↦ sequences-of_another a c (put h b) e ∙ (rest ∙ sym (sequences-of_another a c h e))
    ])
    (λ _. refl)

-- whether all sequences of the agent are below one
abbrev AreBelow : ℕ → ℕ → Holding → Type 0
AreBelow a m h = list_all (λ s. nat_lt s m) (sequences_of a h) ≡ true

below_head : (a m : ℕ) (c : Batch) (h : Holding) → c.agent ≡ a → AreBelow a m (c ∷ h) → c.seq < m
below_head a m c h e below =
    let here = subst (λ xs. list_all (λ s. nat_lt s m) xs ≡ true) (sequences-of_agent a c h (eq-eqb c.agent a e)) below in
    ltb-true c.seq m (and_parts (nat_lt c.seq m) (list_all (λ s. nat_lt s m) (sequences_of a h)) here).0

below_tail : (a m : ℕ) (c : Batch) (h : Holding) → AreBelow a m (c ∷ h) → AreBelow a m h
below_tail a m c h below = elim (cases_Bool (c.agent == a)) [
  | inl e ↦
      let here = subst (λ xs. list_all (λ s. nat_lt s m) xs ≡ true) (sequences-of_agent a c h e) below in
      (and_parts (nat_lt c.seq m) (list_all (λ s. nat_lt s m) (sequences_of a h)) here).1
  | inr e ↦ subst (λ xs. list_all (λ s. nat_lt s m) xs ≡ true) (sequences-of_another a c h e) below
]

-- a batch that comes before one of its agent has a lower sequence
before_same : (b c : Batch) → comes_before b c ≡ true → c.agent ≡ b.agent → b.seq < c.seq
before_same b c h e = grind (arith, nat_tests)

none_after : (b : Batch) (k : Holding) → list_all (comes_before b) k ≡ true → AreBelow b.agent b.seq k → sequences_of b.agent k ≡ []
none_after b [] before below = refl
none_after b (c ∷ k) before below =
    let parts = and_parts (comes_before b c) (list_all (comes_before b) k) before in
    let rest = none_after b k parts.1 (below_tail b.agent b.seq c k below) in
    of_agent_cases (λ xs. xs ≡ []) b.agent c k
    (λ same. let low = below_head b.agent b.seq c k same below in let high = before_same b c parts.0 same in absurd (omega arith))
    (λ other. rest)

sequences-put_last : (h : Holding) (b : Batch) → is_in_order h ≡ true → AreBelow b.agent b.seq h → sequences_of b.agent (put h b) ≡ sequences_of b.agent h ++ b.seq ∷ []
sequences-put_last [] b o below = sequences-of_agent b.agent b [] (eq-eqb b.agent b.agent refl)
sequences-put_last (c ∷ h) b o below =
    let parts = in_order_parts c h o in
    let rest = sequences-put_last h b parts.1 (below_tail b.agent b.seq c h below) in
    put_cases (λ k. sequences_of b.agent k ≡ sequences_of b.agent (c ∷ h) ++ b.seq ∷ []) b c h
    (λ before.
    let none = none_after b (c ∷ h) (in_order_parts b (c ∷ h) (and_from _ _ before o)).0 below in
    sequences-of_agent b.agent b (c ∷ h) (eq-eqb b.agent b.agent refl) ∙ (ap (λ xs. b.seq ∷ xs) none ∙ sym (ap (λ xs. xs ++ b.seq ∷ []) none)))
    (λ _. elim (cases_Bool (c.agent == b.agent)) [
      | inl e ↦ sequences-of_agent b.agent c (put h b) e ∙ (ap (λ xs. c.seq ∷ xs) rest ∙ sym (ap (λ xs. xs ++ b.seq ∷ []) (sequences-of_agent b.agent c h e)))
      | inr e ↦ sequences-of_another b.agent c (put h b) e ∙ (rest ∙ sym (ap (λ xs. xs ++ b.seq ∷ []) (sequences-of_another b.agent c h e)))
    ])
    (λ at. let place = place_of_batch b.agent b.seq c at in let low = below_head b.agent b.seq c h place.0 below in absurd (omega (arith, place.1)))

range-push : (a n : ℕ) → range_with_len a n ++ (a + n) ∷ [] ≡ range_with_len a (suc n)
range-push a zero = let e : a + 0 ≡ a = omega arith in ap (λ x. x ∷ []) e
range-push a (suc n) = let rest = range-push (a + 1) n in let e : a + suc n ≡ a + 1 + n = omega arith in ap (λ xs. a ∷ xs) (ap (λ x. range_with_len (a + 1) n ++ x ∷ []) e ∙ rest)

range_below : (a n m : ℕ) → a + n ≤ m → list_all (λ s. nat_lt s m) (range_with_len a n) ≡ true
range_below a zero m h = refl
range_below a (suc n) m h = and_from (nat_lt a m) _ (lt-ltb a m (omega arith)) (range_below (a + 1) n m (omega arith))

length-push : (xs : List ℕ) (x : ℕ) → length (xs ++ x ∷ []) ≡ length xs + 1
length-push [] x = refl
length-push (y ∷ xs) x = omega (arith, length-push xs x)

no_gap_put : (h : Holding) (b : Batch) → is_in_order h ≡ true → ((a : ℕ) → sequences_of a h ≡ range_with_len 1 (length (sequences_of a h))) → b.seq ≡ next_seq h b.agent
    → (a : ℕ) → sequences_of a (put h b) ≡ range_with_len 1 (length (sequences_of a (put h b)))
no_gap_put h b o no_gap next a = elim (cases_Bool (b.agent == a)) [
  | inl e ↦ subst (λ x. sequences_of x (put h b) ≡ range_with_len 1 (length (sequences_of x (put h b)))) (eqb-true b.agent a e) own
  | inr e ↦ let same = sequences-put_other h b a e in same ∙ (no_gap a ∙ ap (λ xs. range_with_len 1 (length xs)) (sym same))
]
  where
    count : ℕ
    count = length (sequences_of b.agent h)

    below : AreBelow b.agent b.seq h
    below = subst (λ xs. list_all (λ s. nat_lt s b.seq) xs ≡ true) (sym (no_gap b.agent)) (range_below 1 count b.seq (omega (arith, next)))

    last : sequences_of b.agent (put h b) ≡ sequences_of b.agent h ++ b.seq ∷ []
    last = sequences-put_last h b o below

    at_end : b.seq ≡ 1 + count
    at_end = omega (arith, next)

    longer : suc count ≡ length (sequences_of b.agent (put h b))
    longer = let pushed = length-push (sequences_of b.agent h) b.seq in let e = ap length last in omega (arith, pushed, e)

    own : sequences_of b.agent (put h b) ≡ range_with_len 1 (length (sequences_of b.agent (put h b)))
    own =
        last ∙ (ap (λ xs. xs ++ b.seq ∷ []) (no_gap b.agent)
        ∙ (ap (λ x. range_with_len 1 count ++ x ∷ []) at_end ∙ (range-push 1 count
        ∙ ap (range_with_len 1) longer)))

-- ---- the rules

abbrev or_next : Option BrokenRule → Option BrokenRule → Option BrokenRule
or_next now later = elim now [ Some rule ↦ Some rule | None ↦ later ]

pub or_next_parts : (x y : Option BrokenRule) → or_next x y ≡ None → (x ≡ None) × (y ≡ None)
or_next_parts None y h = (refl, h)
or_next_parts (Some r) y h = absurd (cc)

pub or_next_from : (x y : Option BrokenRule) → x ≡ None → y ≡ None → or_next x y ≡ None
or_next_from None y h k = k
or_next_from (Some r) y h k = h

module _ (sheet : Sheet) where
  pub none_append : (h : Holding) (xs ys : List Placed) → first_broken sheet h xs ≡ None → first_broken sheet h ys ≡ None → first_broken sheet h (xs ++ ys) ≡ None
  none_append h [] ys e f = f
  none_append h (x ∷ xs) ys e f =
      let parts = or_next_parts (broken_by sheet h x.place x.what) (first_broken sheet h xs) e in
      or_next_from (broken_by sheet h x.place x.what) (first_broken sheet h (xs ++ ys)) parts.0 (none_append h xs ys parts.1 f)

  pub none_parts : (h : Holding) (xs ys : List Placed) → first_broken sheet h (xs ++ ys) ≡ None → (first_broken sheet h xs ≡ None) × (first_broken sheet h ys ≡ None)
  none_parts h [] ys e = (refl, e)
  none_parts h (x ∷ xs) ys e =
      let parts = or_next_parts (broken_by sheet h x.place x.what) (first_broken sheet h (xs ++ ys)) e in
      let rest = none_parts h xs ys parts.1 in
      (or_next_from (broken_by sheet h x.place x.what) (first_broken sheet h xs) parts.0 rest.0, rest.1)

  -- what breaks no rule breaks none in journals that have more
  still_unbroken : (h k : Holding) → ((agent seq : ℕ) (c : Batch) → held h agent seq ≡ Some c → held k agent seq ≡ Some c) → (at : Position) (what : Record) → broken_by sheet h at what ≡ None → broken_by sheet k at what ≡ None
  still_unbroken h k more at (Reads r) e = e
  still_unbroken h k more at (Amends seq index value) e = by_held (held h at.agent seq) refl e
    where
      target : Position
      target = record { agent = at.agent; seq = seq; index = index }

      at_index : Batch → Option Reading
      at_index b = option_and_then reading_of (slice_get b.records index)

      bad : (t : Bool) → (if t then None else Some BadTarget) ≡ None → t ≡ true
      bad true e = refl
      bad false e = absurd (cc)

      none_false : (t : Bool) → (t && false) ≡ true → ⊥
      none_false true e = both_ways false refl e
      none_false false e = both_ways false refl e

      by_held : (o : Option Batch) → held h at.agent seq ≡ o → (if comes_earlier at seq index && is_fit_target value (option_and_then at_index o) then None else Some BadTarget) ≡ None
          → (if comes_earlier at seq index && is_fit_target value (option_and_then at_index (held k at.agent seq)) then None else Some BadTarget) ≡ None
      by_held None is e = absurd (none_false (comes_earlier at seq index) (bad (comes_earlier at seq index && false) e))
      by_held (Some c) is e = subst (λ o. (if comes_earlier at seq index && is_fit_target value (option_and_then at_index o) then None else Some BadTarget) ≡ None) (sym (more at.agent seq c is)) e

  still_none : (h k : Holding) → ((agent seq : ℕ) (c : Batch) → held h agent seq ≡ Some c → held k agent seq ≡ Some c) → (xs : List Placed) → first_broken sheet h xs ≡ None → first_broken sheet k xs ≡ None
  still_none h k more [] e = refl
  still_none h k more (x ∷ xs) e =
      let parts = or_next_parts (broken_by sheet h x.place x.what) (first_broken sheet h xs) e in
      or_next_from (broken_by sheet k x.place x.what) (first_broken sheet k xs) (still_unbroken h k more x.place x.what parts.0) (still_none h k more xs parts.1)

  none_put : (j h : Holding) (b : Batch) → first_broken sheet j (records_in_order h) ≡ None → first_broken sheet j (placed b) ≡ None → first_broken sheet j (records_in_order (put h b)) ≡ None
  none_put j [] b e f = none_append j (placed b) [] f refl
  none_put j (c ∷ h) b e f =
      let parts = none_parts j (placed c) (records_in_order h) e in
      let rest = none_put j h b parts.1 f in
      put_cases (λ k. first_broken sheet j (records_in_order k) ≡ None) b c h
      (λ _. none_append j (placed b) (records_in_order (c ∷ h)) f e)
      (λ _. none_append j (placed c) (records_in_order (put h b)) parts.0 rest)
      (λ _. e)

  pub MeetsJournalRules-nil : MeetsJournalRules sheet []
  MeetsJournalRules-nil = record { is_holding = IsHolding-nil; no_gap = λ a. refl; none_broken = refl }

  pub MeetsJournalRules-put : (h : Holding) (b : Batch) → MeetsJournalRules sheet h → IsWellFormed b → b.seq ≡ next_seq h b.agent → first_broken sheet (put h b) (placed b) ≡ None → MeetsJournalRules sheet (put h b)
  MeetsJournalRules-put h b rules well next none = record {
    is_holding = IsHolding-put h b rules.is_holding well;
    no_gap = no_gap_put h b rules.is_holding.in_order rules.no_gap next;
    none_broken = none_put (put h b) h b (still_none h (put h b) (λ agent seq c. held-put_kept h b c agent seq rules.is_holding) (records_in_order h) rules.none_broken) none;
  }

-- ---- what is held has one of the sequences

held_below : (h : Holding) (a s m : ℕ) (b : Batch) → AreBelow a m h → held h a s ≡ Some b → s < m
held_below [] a s m b below e = absurd (none-some b e)
held_below (c ∷ h) a s m b below e = elim (cases_Bool (is_batch_at a s c)) [
  | inl at ↦ let place = place_of_batch a s c at in let low = below_head a m c h place.0 below in omega (arith, place.1)
  | inr past ↦ held_below h a s m b (below_tail a m c h below) (sym (cond-false (is_batch_at a s c) (Some c) (held h a s) past) ∙ e)
]

-- a batch of the journals is below its agent's next
pub held_before_next : (sheet : Sheet) (h : Holding) (a s : ℕ) (b : Batch) → MeetsJournalRules sheet h → held h a s ≡ Some b → s < next_seq h a
held_before_next sheet h a s b rules e =
    held_below h a s (next_seq h a) b (subst (λ xs. list_all (λ s. nat_lt s (next_seq h a)) xs ≡ true) (sym (rules.no_gap a)) (range_below 1 (length (sequences_of a h)) (next_seq h a) (omega arith))) e

-- and the journals have no batch at the place of the next
pub next_not_held : (sheet : Sheet) (h : Holding) (a : ℕ) → MeetsJournalRules sheet h → held h a (next_seq h a) ≡ None
next_not_held sheet h a rules = either (held h a (next_seq h a)) refl
  where
    either : (o : Option Batch) → held h a (next_seq h a) ≡ o → o ≡ None
    either None e = refl
    either (Some b) e = let low = held_before_next sheet h a (next_seq h a) b rules e in absurd (omega arith)

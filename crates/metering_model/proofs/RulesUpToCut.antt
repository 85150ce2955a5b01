-- What journals have up to a cut meets their rules too.
use Rattle.std.proofs.Common.{◌≡◌, ℕ, zero, suc, ◌+◌, ◌<◌, ◌≤◌, Bool, true, false, ◌&&◌, List, [], ◌∷◌, length, map, filter, refl, sym, ap, subst, ◌∙◌, arith, Some, None, inl, inr, nat_le, nat_lt}
use Rattle.std.specs.Prelude.{slice_get, ◌==◌, if◌then◌else◌}
use Rattle.std.specs.List.{range_with_len, enumerate_from}
use Rattle.std.specs.Option.{option_and_then}
use Rattle.std.proofs.lemmas.Bool.{and_parts, or_cases, cases_Bool, cond-true, cond-false, eqb-true, ltb-true, le-leb, leb-true, leb-false, false_from_ne_true}
use Rattle.metering_model.specs.Batch.{Batch, Record, Reads, Amends}
use Rattle.metering_model.specs.Sheet.{Sheet}
use Rattle.metering_model.specs.Cut.{Cut, last_of}
use Rattle.metering_model.specs.Holding.{Holding, Position, Placed, sequences_of, up_to, placed, records_in_order, reading_of, reading_at}
use Rattle.metering_model.specs.JournalRules.{MeetsJournalRules, BadTarget, broken_by, first_broken, comes_earlier, is_fit_target}
use Rattle.metering_model.proofs.HoldingLaws.{IsHolding-up_to, held-up_to, up_to_cases}
use Rattle.metering_model.proofs.Journals.{sequences-of_agent, sequences-of_another, none_append, none_parts, or_next_parts, or_next_from}

-- ---- an agent's sequences up to the cut

abbrev until : ℕ → List ℕ → List ℕ
until last ss = filter (λ s. nat_le s last) ss

sequences-up_to : (cut : Cut) (a : ℕ) (h : Holding) → sequences_of a (up_to cut h) ≡ until (last_of cut a) (sequences_of a h)
sequences-up_to cut a [] = refl
sequences-up_to cut a (b ∷ h) = elim (cases_Bool (b.agent == a)) [
  | inl own ↦
      let same = ap (last_of cut) (eqb-true b.agent a own) in
      up_to_cases (λ k. sequences_of a k ≡ until (last_of cut a) (sequences_of a (b ∷ h))) cut b h
      (λ within. sequences-of_agent a b (up_to cut h) own ∙ (ap (λ ss. b.seq ∷ ss) (sequences-up_to cut a h)
      ∙ sym (ap (until (last_of cut a)) (sequences-of_agent a b h own) ∙ cond-true (nat_le b.seq (last_of cut a)) _ _ (le-leb b.seq (last_of cut a) (omega (arith, same, within))))))
      (λ beyond. sequences-up_to cut a h
      ∙ sym (ap (until (last_of cut a)) (sequences-of_agent a b h own) ∙ cond-false (nat_le b.seq (last_of cut a)) _ _ (not_le b.seq (last_of cut a) (omega (arith, same, beyond)))))
  | inr other ↦
      up_to_cases (λ k. sequences_of a k ≡ until (last_of cut a) (sequences_of a (b ∷ h))) cut b h
      (λ within. sequences-of_another a b (up_to cut h) other ∙ (sequences-up_to cut a h ∙ sym (ap (until (last_of cut a)) (sequences-of_another a b h other))))
      (λ beyond. sequences-up_to cut a h ∙ sym (ap (until (last_of cut a)) (sequences-of_another a b h other)))
]
  where
    not_le : (s m : ℕ) → m < s → nat_le s m ≡ false
    not_le s m less = false_from_ne_true _ (λ t. let low = leb-true s m t in omega (arith, low, less))

none_until : (m k n : ℕ) → m < k → until m (range_with_len k n) ≡ []
none_until m k zero above = refl
none_until m k (suc n) above =
    cond-false (nat_le k m) _ _ (false_from_ne_true _ (λ t. let low = leb-true k m t in omega (arith, low, above))) ∙ none_until m (k + 1) n (omega arith)

range_until : (m k n : ℕ) → (j : ℕ) × (until m (range_with_len k n) ≡ range_with_len k j)
range_until m k zero = (0, refl)
range_until m k (suc n) = elim (cases_Bool (nat_le k m)) [
  | inl within ↦ let rest = range_until m (k + 1) n in (suc rest.0, cond-true (nat_le k m) _ _ within ∙ ap (λ ss. k ∷ ss) rest.1)
  | inr beyond ↦ (0, cond-false (nat_le k m) _ _ beyond ∙ none_until m (k + 1) n (let above = leb-false k m beyond in omega (arith, above)))
]

length-range : (k n : ℕ) → length (range_with_len k n) ≡ n
length-range k zero = refl
length-range k (suc n) = omega (arith, length-range (k + 1) n)

no_gap_up_to : (cut : Cut) (h : Holding) (a : ℕ) → sequences_of a h ≡ range_with_len 1 (length (sequences_of a h)) → sequences_of a (up_to cut h) ≡ range_with_len 1 (length (sequences_of a (up_to cut h)))
no_gap_up_to cut h a no_gap =
    let range = range_until (last_of cut a) 1 (length (sequences_of a h)) in
    let is = sequences-up_to cut a h ∙ (ap (until (last_of cut a)) no_gap ∙ range.1) in
    is ∙ ap (range_with_len 1) (sym (ap (λ (ss : List ℕ). length ss) is ∙ length-range 1 range.0))

-- ---- the rules

-- an amendment's target comes before it, so it is up to the cut where the amendment is
module _ (sheet : Sheet) (cut : Cut) (j : Holding) where
  unbroken_up_to : (at : Position) (what : Record) → at.seq ≤ last_of cut at.agent → broken_by sheet j at what ≡ None → broken_by sheet (up_to cut j) at what ≡ None
  unbroken_up_to at (Reads r) within e = e
  unbroken_up_to at (Amends seq index value) within e = by_test (comes_earlier at seq index) refl e
    where
      target : Position
      target = record { agent = at.agent; seq = seq; index = index }

      not_later : comes_earlier at seq index ≡ true → seq ≤ at.seq
      not_later t = elim (or_cases (nat_lt seq at.seq) ((seq == at.seq) && nat_lt index at.index) t) [
        | inl less ↦ let low = ltb-true seq at.seq less in omega (arith, low)
        | inr here ↦ let same = eqb-true seq at.seq (and_parts (seq == at.seq) (nat_lt index at.index) here).0 in omega (arith, same)
      ]

      same : comes_earlier at seq index ≡ true → reading_at (up_to cut j) target ≡ reading_at j target
      same t = let low = not_later t in ap (option_and_then (λ (b : Batch). option_and_then reading_of (slice_get b.records index))) (held-up_to cut j at.agent seq (omega (arith, low, within)))

      by_test : (t : Bool) → comes_earlier at seq index ≡ t → (if t && is_fit_target value (reading_at j target) then None else Some BadTarget) ≡ None → (if t && is_fit_target value (reading_at (up_to cut j) target) then None else Some BadTarget) ≡ None
      by_test true is f = subst (λ o. (if is_fit_target value o then None else Some BadTarget) ≡ None) (sym (same is)) f
      by_test false is f = absurd (cc)

  abbrev place_in : Batch → ℕ × Record → Placed
  place_in b e = record { place = record { agent = b.agent; seq = b.seq; index = e.0 }; what = e.1 }

  batch_unbroken : (b : Batch) (es : List (ℕ × Record)) → b.seq ≤ last_of cut b.agent → first_broken sheet j (map (place_in b) es) ≡ None → first_broken sheet (up_to cut j) (map (place_in b) es) ≡ None
  batch_unbroken b [] within e = refl
  batch_unbroken b (x ∷ es) within e =
      let parts = or_next_parts (broken_by sheet j (place_in b x).place (place_in b x).what) (first_broken sheet j (map (place_in b) es)) e in
      or_next_from (broken_by sheet (up_to cut j) (place_in b x).place (place_in b x).what) (first_broken sheet (up_to cut j) (map (place_in b) es))
      (unbroken_up_to (place_in b x).place (place_in b x).what within parts.0) (batch_unbroken b es within parts.1)

  records_unbroken : (h : Holding) → first_broken sheet j (records_in_order h) ≡ None → first_broken sheet (up_to cut j) (records_in_order (up_to cut h)) ≡ None
  records_unbroken [] e = refl
  records_unbroken (b ∷ h) e =
      let parts = none_parts sheet j (placed b) (records_in_order h) e in
      let rest = records_unbroken h parts.1 in
      up_to_cases (λ k. first_broken sheet (up_to cut j) (records_in_order k) ≡ None) cut b h
      (λ within. none_append sheet (up_to cut j) (placed b) (records_in_order (up_to cut h)) (batch_unbroken b (enumerate_from 0 b.records) within parts.0) rest)
      (λ beyond. rest)

pub MeetsJournalRules-up_to : (sheet : Sheet) (cut : Cut) (h : Holding) → MeetsJournalRules sheet h → MeetsJournalRules sheet (up_to cut h)
MeetsJournalRules-up_to sheet cut h rules = record {
  is_holding = IsHolding-up_to h cut rules.is_holding;
  no_gap = λ a. no_gap_up_to cut h a (rules.no_gap a);
  none_broken = records_unbroken sheet cut h h rules.none_broken;
}

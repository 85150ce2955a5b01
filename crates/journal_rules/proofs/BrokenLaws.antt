-- The first rule that is broken, batch by batch.
use Rattle.std.proofs.Common.{◌≡◌, ℕ, ◌+◌, ◌<◌, ◌≤◌, Bool, true, false, ◌&&◌, List, [], ◌∷◌, ◌++◌, length, refl, sym, ap, ap₂, ◌∙◌, arith, Option, Some, None, inl, inr}
use Rattle.std.specs.Prelude.{All, slice_get, ◌==◌, if◌then◌else◌, nat_lt}
use Rattle.std.specs.Option.{option_and_then}
use Rattle.std.proofs.lemmas.Bool.{and_parts, or_cases, eqb-true, ltb-true}
use Rattle.std.proofs.lemmas.List.Elements.{All-head, All-tail}
use Rattle.metering_model.specs.declared.BrokenRule.{BrokenRule}
use Rattle.metering_model.specs.declared.BrokenRule.TheVariants.{BadTarget}
use Rattle.metering_model.specs.Batch.{Batch, Record, Reads, Amends}
use Rattle.metering_model.specs.Sheet.{Sheet}
use Rattle.metering_model.specs.Cut.{Cut, last_of}
use Rattle.metering_model.specs.Holding.{Holding, IsHolding, Position, Placed, held, placed, records_in_order, reading_at, reading_of, up_to}
use Rattle.metering_model.specs.JournalRules.{broken_by, first_broken, comes_earlier, is_fit_target}
use Rattle.metering_model.proofs.HoldingLaws.{IsHolding-up_to, held-up_to}
use Rattle.journal_rules.proofs.LeftLaws.{IsInCut, in_cut, left_all, left_first, left_next, left_none}
use Rattle.journal_rules.specs.Inner.Left.{left, placed_from, broken_left}

-- a rule that is broken, or else what comes behind
abbrev pub or_later : Option BrokenRule → Option BrokenRule → Option BrokenRule
or_later now later = elim now [ Some rule ↦ Some rule | None ↦ later ]

or_later-assoc : (x y z : Option BrokenRule) → or_later (or_later x y) z ≡ or_later x (or_later y z)
or_later-assoc None y z = refl
or_later-assoc (Some r) y z = refl

module _ (sheet : Sheet) (h : Holding) where
  broken-append : (xs ys : List Placed) → first_broken sheet h (xs ++ ys) ≡ or_later (first_broken sheet h xs) (first_broken sheet h ys)
  broken-append [] ys = refl
  broken-append (x ∷ xs) ys =
      let here = broken_by sheet h x.place x.what in
      ap (or_later here) (broken-append xs ys) ∙ sym (or_later-assoc here (first_broken sheet h xs) (first_broken sheet h ys))

module _ (sheet : Sheet) (h : Holding) (cut : Cut) (ok : IsHolding h) where
  -- the batch at a place decides first
  pub broken_first : (a s : ℕ) (b : Batch) → held h a s ≡ Some b → s ≤ last_of cut a
      → broken_left sheet h cut a s ≡ or_later (first_broken sheet h (placed b)) (broken_left sheet h cut a (s + 1))
  unfolding broken_left
  broken_first a s b found within =
      let order = (IsHolding-up_to h cut ok).in_order in
      ap (λ k. first_broken sheet h (records_in_order k)) (left_first (up_to cut h) a s b order (held-up_to cut h a s within ∙ found))
      ∙ broken-append sheet h (placed b) (records_in_order (left a (s + 1) (up_to cut h)))

  -- where it breaks none, those behind it decide
  pub broken_behind : (a s : ℕ) (b : Batch) → held h a s ≡ Some b → s ≤ last_of cut a → None ≡ first_broken sheet h (placed b)
      → broken_left sheet h cut a s ≡ broken_left sheet h cut a (s + 1)
  broken_behind a s b found within none = broken_first a s b found within ∙ ap (λ o. or_later o (broken_left sheet h cut a (s + 1))) (sym none)

  pub broken_here : (a s : ℕ) (b : Batch) (rule : BrokenRule) → held h a s ≡ Some b → s ≤ last_of cut a → Some rule ≡ first_broken sheet h (placed b)
      → broken_left sheet h cut a s ≡ Some rule
  broken_here a s b rule found within is = broken_first a s b found within ∙ ap (λ o. or_later o (broken_left sheet h cut a (s + 1))) (sym is)

  pub broken_next : (a s : ℕ) → last_of cut a < s → broken_left sheet h cut a s ≡ broken_left sheet h cut (a + 1) 1
  unfolding broken_left
  broken_next a s past = ap (λ k. first_broken sheet h (records_in_order k)) (left_next h cut ok a s past)

  pub broken_end : (a s : ℕ) → length cut < a → broken_left sheet h cut a s ≡ None
  unfolding broken_left
  broken_end a s past = ap (λ k. first_broken sheet h (records_in_order k)) (left_none h cut ok a s past)

  broken_all : broken_left sheet h cut 1 1 ≡ first_broken sheet h (records_in_order (up_to cut h))
  unfolding broken_left
  broken_all = ap (λ k. first_broken sheet h (records_in_order k)) (left_all h cut ok)

-- ---- targets stand up to the cut

module _ (sheet : Sheet) (h : Holding) (cut : Cut) where
  same_broken : (at : Position) (what : Record) → at.seq ≤ last_of cut at.agent → broken_by sheet h at what ≡ broken_by sheet (up_to cut h) at what
  same_broken at (Reads r) within = refl
  same_broken at (Amends seq index value) within = by_test (comes_earlier at seq index) refl
    where
      target : Position
      target = record { agent = at.agent; seq = seq; index = index }

      not_later : comes_earlier at seq index ≡ true → seq ≤ at.seq
      not_later t = elim (or_cases (nat_lt seq at.seq) ((seq == at.seq) && nat_lt index at.index) t) [
        | inl less ↦ let low = ltb-true seq at.seq less in omega (arith, low)
        | inr here ↦ let same = eqb-true seq at.seq (and_parts (seq == at.seq) (nat_lt index at.index) here).0 in omega (arith, same)
      ]

      same : comes_earlier at seq index ≡ true → reading_at (up_to cut h) target ≡ reading_at h target
      same t = let low = not_later t in ap (option_and_then (λ (b : Batch). option_and_then reading_of (slice_get b.records index))) (held-up_to cut h at.agent seq (omega (arith, low, within)))

      by_test : (t : Bool) → comes_earlier at seq index ≡ t
          → (if t && is_fit_target value (reading_at h target) then None else Some BadTarget) ≡ (if t && is_fit_target value (reading_at (up_to cut h) target) then None else Some BadTarget)
      by_test true is = ap (λ o. if is_fit_target value o then None else Some BadTarget) (sym (same is))
      by_test false is = refl

  same_in_batch : (agent seq index : ℕ) (rs : List Record) → seq ≤ last_of cut agent → first_broken sheet h (placed_from agent seq index rs) ≡ first_broken sheet (up_to cut h) (placed_from agent seq index rs)
  same_in_batch agent seq index [] within = refl
  same_in_batch agent seq index (r ∷ rs) within =
      ap₂ or_later (same_broken (record { agent = agent; seq = seq; index = index }) r within) (same_in_batch agent seq (index + 1) rs within)

  same_in_all : (k : Holding) → All (IsInCut cut) k → first_broken sheet h (records_in_order k) ≡ first_broken sheet (up_to cut h) (records_in_order k)
  same_in_all [] all = refl
  same_in_all (b ∷ k) all =
      broken-append sheet h (placed b) (records_in_order k)
      ∙ (ap₂ or_later (same_in_batch b.agent b.seq 0 b.records (All-head (IsInCut cut) b k all).within) (same_in_all k (All-tail (IsInCut cut) b k all))
      ∙ sym (broken-append sheet (up_to cut h) (placed b) (records_in_order k)))

  pub broken_from_first : IsHolding h → broken_left sheet h cut 1 1 ≡ first_broken sheet (up_to cut h) (records_in_order (up_to cut h))
  broken_from_first ok = broken_all sheet h cut ok ∙ same_in_all (up_to cut h) (in_cut h cut ok)

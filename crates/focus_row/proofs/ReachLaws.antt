-- How far the cuts reach that a function's own `self` has, where its view is `s`; and the row of a reading above the earlier one.
use Rattle.std.proofs.Common.{◌≡◌, ℕ, ◌<◌, ◌≤◌, length, refl, sym, ap, subst, ◌∙◌, arith, Option, Some, None, pos, ℤ, true, false, nat_lt, int_eq}
use Rattle.std.specs.Prelude.{◌≤ℤ◌, slice_get, unsigned_abs}
use Rattle.std.specs.Option.{option_and_then}
use Rattle.std.proofs.lemmas.Bool.{cond-true, cond-false, lt-ltb, le-ltb}
use Rattle.std.proofs.lemmas.Int.{ints}
use Rattle.std.proofs.lemmas.List.Elements.{length_all_zip}
use Rattle.std.proofs.Math.Dec.{lit<}
use Rattle.metering_model.specs.NumberText.{value_limit}
use Rattle.metering_model.specs.Batch.{Batch, Reading, Reads}
use Rattle.metering_model.specs.Cut.{last_of}
use Rattle.metering_model.specs.Holding.{Holding, Position, held, reading_at, reading_of}
use Rattle.metering_model.specs.ValueAtSequence.{value_at}
use Rattle.metering_model.specs.declared.ChargeClass.TheVariants.{New}
use Rattle.metering_model.specs.Row.{Row, row}
use Rattle.metering_model.specs.Rows.{differ, row_of_reading}
use Rattle.metering_model.proofs.AgreementLaws.{last_of_grows}
use Rattle.focus_row.specs.Inner.Left.{Between, MayBeCharged, IsUpTo, record_at}

-- ---- the cuts

module _ {b s : Between} (may : MayBeCharged b) (same : b ≡ s) where
  agents_of : b.agents ≡ s.agents
  agents_of = ap (λ (x : Between). x.agents) same

  -- the later cut has each of the agents, and so has the earlier one
  pub agent_of_to : {a : ℕ} → a ≤ s.agents → a ≤ length b.to
  agent_of_to {a} one = omega (arith, may.same_agents, agents_of)

  pub agent_of_from : {a : ℕ} → a ≤ s.agents → a ≤ length b.from
  agent_of_from {a} one = omega (arith, may.same_agents, agents_of, length_all_zip (λ x y. x ≤ y) b.from b.to may.grows)

  -- what is up to either cut is up to the later one
  pub from_reaches : (a : ℕ) {r : ℕ} → r ≡ last_of b.from a → r ≤ last_of s.to a
  from_reaches a {r} is = omega (arith, is, last_of_grows b.from b.to a may.grows, ap (λ (x : Between). last_of x.to a) same)

  pub to_reaches : (a : ℕ) {r : ℕ} → r ≡ last_of b.to a → r ≤ last_of s.to a
  to_reaches a {r} is = omega (arith, is, ap (λ (x : Between). last_of x.to a) same)

  pub place_reaches : {p : Position} → IsUpTo s.agents s.from p → IsUpTo s.agents s.to p
  place_reaches {p} up = record {
    from = up.from;
    to = up.to;
    within = omega (arith, up.within, from_reaches p.agent refl, ap (λ (x : Between). last_of x.from p.agent) same);
  }

-- a place up to the later cut whose sequence the earlier one has is up to the earlier one
pub place_low : {b s : Between} {p : Position} {r : ℕ} → b ≡ s → IsUpTo s.agents s.to p → r ≡ last_of b.from p.agent → p.seq ≤ r → IsUpTo s.agents s.from p
place_low {b} {s} {p} {r} same up is low = record {
  from = up.from;
  to = up.to;
  within = omega (arith, low, is, ap (λ (x : Between). last_of x.from p.agent) same);
}

-- and one whose sequence it has not is above it
pub place_high : {b s : Between} (p : Position) {r : ℕ} → b ≡ s → r ≡ last_of b.from p.agent → r < p.seq → last_of s.from p.agent < p.seq
place_high {b} {s} p {r} same is high = omega (arith, high, is, ap (λ (x : Between). last_of x.from p.agent) same)

-- ---- a reading

-- a record that is there and a reading is the reading there
pub reading_there : (h : Holding) (p : Position) (r : Reading) → record_at h p ≡ Some (Reads r) → reading_at h p ≡ Some r
reading_there h p r e = by_held (held h p.agent p.seq) e
  where
    by_held : (o : Option Batch) → option_and_then (λ b. slice_get b.records p.index) o ≡ Some (Reads r)
        → option_and_then (λ b. option_and_then reading_of (slice_get b.records p.index)) o ≡ Some r
    by_held None e = absurd (cc)
    by_held (Some b) e = ap (option_and_then reading_of) e

-- the value of nothing
pub nothing : {r : Option ℤ} {v : ℤ} → (unsigned_abs (pos 0) < value_limit → r ≡ Some (pos 0)) → r ≡ Some v → v ≡ pos 0
nothing within is = let zero = within (lit< tt) in cc

-- nothing is not negative
pub nothing_fits : {v : ℤ} → v ≡ pos 0 → pos 0 ≤ℤ v
nothing_fits {v} is = omega (arith, ints)

-- one above the earlier cut is charged whole
pub row_whole : (s : Between) (p : Position) (r : Reading) (was now : ℤ) (charged : Row) → last_of s.from p.agent < p.seq
    → was ≡ pos 0 → now ≡ value_at s.batches p (last_of s.to p.agent)
    → charged ≡ row s.sheet s.issuer r s.period New was now → Some charged ≡ row_of_reading s.sheet s.issuer s.batches s.period s.from s.to p r
row_whole s p r was now charged high is_was is_now is =
    let to = value_at s.batches p (last_of s.to p.agent) in
    let at_cuts : charged ≡ row s.sheet s.issuer r s.period New (pos 0) to =
    subst (λ v. charged ≡ row s.sheet s.issuer r s.period New v to) is_was (subst (λ v. charged ≡ row s.sheet s.issuer r s.period New was v) is_now is) in
    sym (cond-true (nat_lt (last_of s.from p.agent) p.seq) _ _ (lt-ltb (last_of s.from p.agent) p.seq high) ∙ ap Some (sym at_cuts))

-- values that are the same do not differ, and others do
pub same_alike : (a b : ℤ) → int_eq a b ≡ true → differ a b ≡ false
same_alike a b e = grind (arith, ints)

pub other_apart : (a b : ℤ) → int_eq a b ≡ false → differ a b ≡ true
other_apart a b e = grind (arith, ints)

-- one up to the earlier cut whose values are the same has no row
pub row_none : (s : Between) (p : Position) (r : Reading) (was now : ℤ) → p.seq ≤ last_of s.from p.agent
    → was ≡ value_at s.batches p (last_of s.from p.agent) → now ≡ value_at s.batches p (last_of s.to p.agent) → differ was now ≡ false
    → None ≡ row_of_reading s.sheet s.issuer s.batches s.period s.from s.to p r
row_none s p r was now low is_was is_now alike =
    let from = value_at s.batches p (last_of s.from p.agent) in
    let to = value_at s.batches p (last_of s.to p.agent) in
    let none : differ from to ≡ false = subst (λ v. differ v to ≡ false) is_was (subst (λ v. differ was v ≡ false) is_now alike) in
    sym (cond-false (nat_lt (last_of s.from p.agent) p.seq) _ _ (le-ltb (last_of s.from p.agent) p.seq low) ∙ cond-false (differ from to) _ None none)

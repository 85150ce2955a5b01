-- The latest days with one batch more.
use Rattle.std.proofs.Common.{◌≡◌, ◌≢◌, ℕ, zero, suc, ◌-◌, ◌<◌, ◌≤◌, ◌==◌, Bool, false, cond, List, [], ◌∷◌, ◌++◌, length, filter, Option, Some, None, ℤ, slice_set, inl, inr, refl, sym, ap, ◌∙◌, subst, arith, eq-eqb}
use Rattle.std.specs.List.{flat_map, slice_get}
use Rattle.std.proofs.lemmas.Bool.Decides.{eqb_tells}
use Rattle.std.proofs.Math.ListN.{replicate}
use Rattle.std.proofs.lemmas.List.{get_or-replicate, length-replicate}
use Rattle.std.proofs.lemmas.Option.{slice_get-get_or, slice_get_within}
use Rattle.metering_model.specs.Batch.{Batch}
use Rattle.metering_model.specs.Limits.{most_agents}
use Rattle.fault_lines.specs.Ahead.{AreLatest, days_of, latest, start_day}

module _ {X : Type 0} where
  set_here : (xs : List X) (i : ℕ) (x : X) → i < length xs → slice_get (slice_set xs i x) i ≡ Some x
  set_here [] i x low = absurd (omega (arith, low))
  set_here (y ∷ xs) zero x low = refl
  set_here (y ∷ xs) (suc i) x low = set_here xs i x (omega (arith, low))

  set_elsewhere : (xs : List X) (i k : ℕ) (x : X) → i ≢ k → slice_get (slice_set xs i x) k ≡ slice_get xs k
  set_elsewhere [] i k x other = refl
  set_elsewhere (y ∷ xs) zero zero x other = absurd (other refl)
  set_elsewhere (y ∷ xs) zero (suc k) x other = refl
  set_elsewhere (y ∷ xs) (suc i) zero x other = refl
  set_elsewhere (y ∷ xs) (suc i) (suc k) x other = set_elsewhere xs i k x (λ same. other (ap suc same))

module _ (b : Batch) (journaled : List Batch) where
  abbrev with_head : Bool → ℕ → List ℤ
  with_head t agent = flat_map (λ (c : Batch). flat_map start_day c.records) (cond t (b ∷ filter (λ (c : Batch). c.agent == agent) journaled) (filter (λ (c : Batch). c.agent == agent) journaled))

  own_days : days_of b.agent (b ∷ journaled) ≡ flat_map start_day b.records ++ days_of b.agent journaled
  own_days = ap (λ t. with_head t b.agent) (eq-eqb b.agent b.agent refl)

  other_days : (agent : ℕ) → (b.agent == agent) ≡ false → days_of agent (b ∷ journaled) ≡ days_of agent journaled
  other_days agent is = ap (λ t. with_head t agent) is

  pub kept : (days : List (Option ℤ)) (place : ℕ) (now : Option ℤ) → 1 ≤ b.agent → b.agent ≤ most_agents → place ≡ b.agent - 1
      → now ≡ latest (flat_map start_day b.records ++ days_of b.agent journaled) → AreLatest days journaled → AreLatest (slice_set days place now) (b ∷ journaled)
  kept days place now from to at is before agent low high = elim (eqb_tells b.agent agent) [
    | inl h ↦
        let here : agent - 1 ≡ place = omega (arith, h.1, at) in
        let within : place < length days = subst (λ n. n < length days) (sym at) (slice_get_within days (b.agent - 1) _ (before b.agent from to)) in
        ap (slice_get (slice_set days place now)) here
        ∙ (set_here days place now within
        ∙ ap Some (is ∙ (sym (ap latest own_days) ∙ ap (λ a. latest (days_of a (b ∷ journaled))) h.1)))
    | inr h ↦
        let apart : b.agent ≡ agent → ⊥ = h.1 in
        let other : place ≢ agent - 1 = λ same. apart (omega (arith, same, at, from, low)) in
        set_elsewhere days place (agent - 1) now other ∙ (before agent low high ∙ ap Some (sym (ap latest (other_days agent h.0))))
  ]

-- those of no batches
pub none_there : AreLatest (replicate {0} most_agents None) []
none_there agent low high =
    let none : Option ℤ = None in
    let within : agent - 1 < most_agents = omega (arith, low, high) in
    slice_get-get_or (replicate {0} most_agents none) (agent - 1) none (subst (λ n. agent - 1 < n) (sym (length-replicate {0} most_agents none)) within)
    ∙ ap Some (get_or-replicate {0} most_agents (agent - 1) none none within)

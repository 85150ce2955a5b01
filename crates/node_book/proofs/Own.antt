-- A worker's own entries, compared with a list step by step over the history.
use Rattle.std.proofs.Common.{◌≡◌, ◌↔◌, ℕ, ◌+◌, ◌≤◌, Bool, true, false, List, [], ◌∷◌, length, drop, arith, sym, ap, ◌∙◌, Some, length-drop}
use Rattle.std.specs.Prelude.{slice_get, if◌then◌else◌}
use Rattle.std.proofs.Math.Seq.{drop-length}
use Rattle.metering_model.specs.declared.Worker.{Worker}
use Rattle.metering_model.specs.History.{Entry}
use Rattle.node_book.specs.Agreement.{is_same_worker, from_own}
use Rattle.node_book.proofs.Lists.{drop_at, first_of_drop}

module _ {A : Type 0} (read : ℕ → Entry → A) (who : Worker) (P : Type 0) (history : List Entry) (target : List A) where
  -- what is still to be compared, at a place of the history and at the next of the list
  abbrev pub IsLeft : ℕ → ℕ → Type 0
  IsLeft place next = P ↔ (from_own read who place (drop place history) ≡ drop next target)

  module _ (place next : ℕ) (e : Entry) (at : slice_get history place ≡ Some e) (left : IsLeft place next) where
    rest : List A
    rest = from_own read who (place + 1) (drop (place + 1) history)

    own_by : (b : Bool) → is_same_worker e.who who ≡ b → from_own read who place (drop place history) ≡ (if b then read place e ∷ rest else rest)
    unfolding rest
    own_by b is = ap (from_own read who place) (drop_at history place e at) ∙ ap (λ t. if t then read place e ∷ rest else rest) is

    pub own_steps : is_same_worker e.who who ≡ true → slice_get target next ≡ Some (read place e) → IsLeft (place + 1) (next + 1)
    unfolding rest
    own_steps same found = (
      (λ p. tail (sym (own_by true same) ∙ (left.0 p ∙ drop_at target next (read place e) found))),
      (λ q. left.1 (own_by true same ∙ (ap (λ xs. read place e ∷ xs) q ∙ sym (drop_at target next (read place e) found)))),
    )
      where
        tail : read place e ∷ rest ≡ read place e ∷ drop (next + 1) target → rest ≡ drop (next + 1) target
        tail h = cc

    pub own_skips : is_same_worker e.who who ≡ false → IsLeft (place + 1) next
    unfolding rest
    own_skips other = ((λ p. sym (own_by false other) ∙ left.0 p), (λ q. left.1 (own_by false other ∙ q)))

    pub own_stops : is_same_worker e.who who ≡ true → (slice_get target next ≡ Some (read place e) → ⊥) → P → ⊥
    own_stops same differs p = differs (first_of_drop target rest next (read place e) (sym (left.0 p) ∙ own_by true same))

  pub own_ends : (place next : ℕ) → place ≡ length history → next ≤ length target → IsLeft place next → P ↔ (next ≡ length target)
  own_ends place next end within left = ((λ p. all_taken (none ∙ left.0 p)), (λ q. left.1 (sym none ∙ sym (ap (λ k. drop k target) q ∙ drop-length target))))
    where
      none : [] ≡ from_own read who place (drop place history)
      none = sym (ap (from_own read who place) (ap (λ k. drop k history) end ∙ drop-length history))

      all_taken : [] ≡ drop next target → next ≡ length target
      all_taken h = let n = ap length h in omega (arith, n, length-drop next target, within)

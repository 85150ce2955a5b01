-- Cuts that grow, by the tests of the local step.
use Rattle.std.proofs.Common.{◌≡◌, ℕ, zero, suc, ◌+◌, ◌-◌, ◌<◌, ◌≤◌, Bool, true, false, ◌&&◌, List, [], ◌∷◌, length, take, refl, sym, ap, ap₂, subst, ◌∙◌, arith, Some, None}
use Rattle.std.specs.Prelude.{All, IsTrue, ◌↔◌, slice_get, unwrap_or}
use Rattle.std.proofs.lemmas.Bool.{and_parts, and_from, leb-true, le-leb}
use Rattle.std.proofs.lemmas.Option.{same_Some, none-some}
use Rattle.std.proofs.lemmas.List.Elements.{All-head, All-tail}
use Rattle.metering_model.specs.Cut.{Cut, IsAtLeast, zero_cut}
use Rattle.metering_model.specs.Step.{cut_before}
use Rattle.metering_model.proofs.CutLaws.{at_least_zero}
use Rattle.process_laws.specs.LocalSteps.{is_at_least, are_growing}
use Rattle.group_process.specs.Inner.Growing.{are_in_turn, goes_on}

pub at_least_true : (cut other : Cut) → is_at_least cut other ≡ true → IsAtLeast cut other
at_least_true [] [] e = tt
at_least_true [] (b ∷ other) e = absurd (cc)
at_least_true (a ∷ cut) [] e = absurd (cc)
at_least_true (a ∷ cut) (b ∷ other) e = let parts = and_parts _ (is_at_least cut other) e in (leb-true b a parts.0, at_least_true cut other parts.1)

pub at_least_from : (cut other : Cut) → IsAtLeast cut other → is_at_least cut other ≡ true
at_least_from [] [] h = refl
at_least_from [] (b ∷ other) h = absurd h
at_least_from (a ∷ cut) [] h = absurd h
at_least_from (a ∷ cut) (b ∷ other) h = and_from _ (is_at_least cut other) (le-leb b a h.0) (at_least_from cut other h.1)

pub at_least_test : (t : Bool) (cut other : Cut) → IsTrue t ↔ IsAtLeast cut other → t ≡ is_at_least cut other
at_least_test true cut other h = sym (at_least_from cut other (h.0 refl))
at_least_test false cut other h = by_test (is_at_least cut other) (λ e. h.1 (at_least_true cut other e))
  where
    by_test : (u : Bool) → (u ≡ true → false ≡ true) → false ≡ u
    by_test true f = f refl
    by_test false f = refl

-- the first cut goes on from the zero cut
pub first_goes_on : (agents : ℕ) (cuts : List Cut) → All (λ cut. length cut ≡ agents) cuts → 0 < length cuts → goes_on (zero_cut agents) cuts 0 ≡ true
first_goes_on agents [] all some = absurd (omega arith)
first_goes_on agents (c ∷ cs) all some =
    let size = All-head (λ (cut : Cut). length cut ≡ agents) c cs all in
    at_least_from c (zero_cut agents) (subst (λ n. IsAtLeast c (zero_cut n)) size (at_least_zero c))

-- what is behind the first cut
behind_first : (first c : Cut) (cs : List Cut) (n : ℕ) → goes_on first (c ∷ cs) (suc n) ≡ goes_on c cs n
behind_first first c cs zero = refl
behind_first first c cs (suc n) = refl

-- one more cut that goes on
pub grow_more : (first : Cut) (cuts : List Cut) (n : ℕ) → n < length cuts → are_growing first (take n cuts) ≡ true → goes_on first cuts n ≡ true → are_growing first (take (suc n) cuts) ≡ true
grow_more first [] n low grow more = absurd (omega arith)
grow_more first (c ∷ cs) zero low grow more = and_from (is_at_least c first) true more refl
grow_more first (c ∷ cs) (suc n) low grow more =
    let parts = and_parts (is_at_least c first) (are_growing c (take n cs)) grow in
    and_from (is_at_least c first) (are_growing c (take (suc n) cs)) parts.0 (grow_more c cs n (omega arith) parts.1 (sym (behind_first first c cs n) ∙ more))

-- and one that does not
pub grow_not : (first : Cut) (cuts : List Cut) (n p : ℕ) → n ≤ p → p < length cuts → goes_on first cuts n ≡ false → are_growing first (take (suc p) cuts) ≡ false
grow_not first [] n p low within not = absurd (omega arith)
grow_not first (c ∷ cs) zero p low within not = ap (λ t. t && are_growing c (take p cs)) not
grow_not first (c ∷ cs) (suc n) zero low within not = absurd (omega arith)
grow_not first (c ∷ cs) (suc n) (suc p) low within not = and_not (is_at_least c first) (grow_not c cs n p (omega arith) (omega arith) (sym (behind_first first c cs n) ∙ not))
  where
    and_not : (t : Bool) {u : Bool} → u ≡ false → (t && u) ≡ false
    and_not true e = e
    and_not false e = refl

-- what holds of each element holds of the one at a place
at_entry : {A : Type 0} (P : A → Type 0) (xs : List A) (k : ℕ) (x : A) → All P xs → slice_get xs k ≡ Some x → P x
at_entry P [] k x all e = absurd (none-some x e)
at_entry P (y ∷ ys) zero x all e = subst P (same_Some y x e) (All-head P y ys all)
at_entry P (y ∷ ys) (suc k) x all e = at_entry P ys k x (All-tail P y ys all) e

-- the test of two cuts that stand in turn
pub test_in_turn : (t : Bool) (first : Cut) (cuts : List Cut) (p : ℕ) (before cut : Cut) → (p ≡ 0 → ⊥) → slice_get cuts (p - 1) ≡ Some before → slice_get cuts p ≡ Some cut
    → IsTrue t ↔ IsAtLeast cut before → t ≡ goes_on first cuts p
test_in_turn t first cuts zero before cut some one two tells = absurd (some refl)
test_in_turn t first cuts (suc q) before cut some one two tells =
    let back : suc q - 1 ≡ q = omega arith in
    let found = sym (ap (slice_get cuts) back) ∙ one in
    at_least_test t cut before tells ∙ sym (ap₂ are_in_turn found two)

-- a learned cut has an entry for each agent
pub learned_size : (agents : ℕ) (cuts : List Cut) (p : ℕ) (cut : Cut) → All (λ cut. length cut ≡ agents) cuts → slice_get cuts p ≡ Some cut → length cut ≡ agents
learned_size agents cuts p cut all found = at_entry (λ (cut : Cut). length cut ≡ agents) cuts p cut all found

-- a period whose cut is learned
pub period_within : (cuts : List Cut) (p : ℕ) (cut : Cut) → slice_get cuts p ≡ Some cut → p < length cuts
period_within [] p cut e = absurd (none-some cut e)
period_within (c ∷ cs) zero cut e = omega arith
period_within (c ∷ cs) (suc p) cut e = let low = period_within cs p cut e in omega arith

-- and one below how many are learned is learned
pub none_absent : (cuts : List Cut) (p : ℕ) → p < length cuts → slice_get cuts p ≡ None → ⊥
none_absent [] p within e = omega arith
none_absent (c ∷ cs) zero within e = absurd (cc)
none_absent (c ∷ cs) (suc p) within e = none_absent cs p (omega arith) e

grows_at : (first default : Cut) (cuts : List Cut) (p : ℕ) (to : Cut) → are_growing first (take (suc p) cuts) ≡ true → slice_get cuts p ≡ Some to
    → IsAtLeast to (elim p [ zero ↦ first | suc q ↦ unwrap_or (slice_get cuts q) default ])
grows_at first default [] p to grow e = absurd (none-some to e)
grows_at first default (c ∷ cs) zero to grow e = subst (λ d. IsAtLeast d first) (same_Some c to e) (at_least_true c first (and_parts (is_at_least c first) true grow).0)
grows_at first default (c ∷ cs) (suc zero) to grow e = grows_at c default cs zero to (and_parts (is_at_least c first) (are_growing c (take 1 cs)) grow).1 e
grows_at first default (c ∷ cs) (suc (suc q)) to grow e = grows_at c default cs (suc q) to (and_parts (is_at_least c first) (are_growing c (take (suc (suc q)) cs)) grow).1 e

-- where the cuts up to a period grow, its own goes on from the one before
pub goes_on_from_before : (agents p : ℕ) (cuts : List Cut) (to : Cut) → are_growing (zero_cut agents) (take (p + 1) cuts) ≡ true → slice_get cuts p ≡ Some to → IsAtLeast to (cut_before agents cuts p)
goes_on_from_before agents p cuts to grow e =
    let next : p + 1 ≡ suc p = omega arith in by_period p (subst (λ n. are_growing (zero_cut agents) (take n cuts) ≡ true) next grow) e
  where
    by_period : (p : ℕ) → are_growing (zero_cut agents) (take (suc p) cuts) ≡ true → slice_get cuts p ≡ Some to → IsAtLeast to (cut_before agents cuts p)
    by_period zero grow e = grows_at (zero_cut agents) (zero_cut agents) cuts zero to grow e
    by_period (suc q) grow e = grows_at (zero_cut agents) (zero_cut agents) cuts (suc q) to grow e

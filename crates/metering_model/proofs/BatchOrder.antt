-- The order of batches: what a holding in order has at its front, and that `put` and `filter` keep the order.
use Rattle.std.proofs.Common.{◌≡◌, ℕ, Bool, true, false, List, [], ◌∷◌, filter, Some, None, refl, sym, subst, ◌∙◌, arith, inl, inr}
use Rattle.std.specs.List.{find, list_all}
use Rattle.std.proofs.lemmas.Bool.{and_parts, and_from, cond_both, cond-true, cond-false, cases_Bool, eqb-true}
use Rattle.std.proofs.lemmas.Bool.Decides.{nat_tests}
use Rattle.metering_model.specs.Batch.{Batch}
use Rattle.metering_model.specs.Holding.{Holding, comes_before, is_in_order, is_batch_at, held, put}

-- ---- lists

-- what passes one test passes a weaker one
pub list_all-weaker : {X : Type 0} (p q : X → Bool) → ((x : X) → p x ≡ true → q x ≡ true) → (xs : List X) → list_all p xs ≡ true → list_all q xs ≡ true
list_all-weaker p q f [] h = refl
list_all-weaker p q f (x ∷ xs) h =
    let parts = and_parts (p x) (list_all p xs) h in and_from (q x) (list_all q xs) (f x parts.0) (list_all-weaker p q f xs parts.1)

-- a filter keeps what all pass
pub list_all-filter : {X : Type 0} (p q : X → Bool) (xs : List X) → list_all p xs ≡ true → list_all p (filter q xs) ≡ true
list_all-filter p q [] h = refl
list_all-filter p q (x ∷ xs) h =
    let parts = and_parts (p x) (list_all p xs) h in
    let rest = list_all-filter p q xs parts.1 in
    cond_both (q x) (x ∷ filter q xs) (filter q xs) (λ ys. list_all p ys ≡ true) (λ _. and_from (p x) _ parts.0 rest) (λ _. rest)

-- what is found passes the test, and what all pass
pub found_passes : {X : Type 0} (p q : X → Bool) (xs : List X) (y : X) → list_all q xs ≡ true → find p xs ≡ Some y → (p y ≡ true) × (q y ≡ true)
found_passes p q [] y h f = cc
found_passes p q (x ∷ xs) y h f =
    let all = and_parts (q x) (list_all q xs) h in
    elim (cases_Bool (p x)) [
      | inl t ↦ let found : Some x ≡ Some y = sym (cond-true (p x) (Some x) (find p xs) t) ∙ f in
          let same : x ≡ y = cc in
          subst (λ z. (p z ≡ true) × (q z ≡ true)) same (t, all.0)
      | inr t ↦ found_passes p q xs y all.1 (sym (cond-false (p x) (Some x) (find p xs) t) ∙ f)
    ]

-- a test that fails at all finds nothing
pub found_none : {X : Type 0} (p q : X → Bool) → ((x : X) → q x ≡ true → p x ≡ false) → (xs : List X) → list_all q xs ≡ true → find p xs ≡ None
found_none p q f [] h = refl
found_none p q f (x ∷ xs) h =
    let all = and_parts (q x) (list_all q xs) h in cond-false (p x) (Some x) (find p xs) (f x all.0) ∙ found_none p q f xs all.1

-- ---- the order of batches

-- `comes_before` is a strict order
pub comes_before-trans : (b c d : Batch) → comes_before b c ≡ true → comes_before c d ≡ true → comes_before b d ≡ true
comes_before-trans b c d h k = grind (arith, nat_tests)

-- no two batches come before one another
pub never_both : (b c : Batch) → comes_before b c ≡ true → comes_before c b ≡ true → ⊥
never_both b c h k = grind (arith, nat_tests)

-- a batch stands at its own place
pub at_itself : (b : Batch) → is_batch_at b.agent b.seq b ≡ true
at_itself b = grind (arith, nat_tests)

-- of two batches of one place neither comes before the other
pub not_at-after : (b c : Batch) (agent seq : ℕ) → comes_before b c ≡ true → is_batch_at agent seq b ≡ true → is_batch_at agent seq c ≡ false
not_at-after b c agent seq h k = grind (arith, nat_tests)

-- the same, for the one before
pub not_at-before : (b c : Batch) (agent seq : ℕ) → comes_before b c ≡ true → is_batch_at agent seq c ≡ true → is_batch_at agent seq b ≡ false
not_at-before b c agent seq h k = grind (arith, nat_tests)

-- two batches of which neither comes before the other are of one place
pub same_place : (b c : Batch) → comes_before b c ≡ false → comes_before c b ≡ false → is_batch_at b.agent b.seq c ≡ true
same_place b c h k = grind (arith, nat_tests)

-- a batch at a place is of that agent and sequence
pub place_of_batch : (agent seq : ℕ) (b : Batch) → is_batch_at agent seq b ≡ true → (b.agent ≡ agent) × (b.seq ≡ seq)
place_of_batch agent seq b h = let parts = and_parts _ _ h in (eqb-true _ _ parts.0, eqb-true _ _ parts.1)

-- the first of a holding in order comes before all the others
pub in_order_parts : (b : Batch) (h : Holding) → is_in_order (b ∷ h) ≡ true → (list_all (comes_before b) h ≡ true) × (is_in_order h ≡ true)
in_order_parts b [] o = (refl, refl)
in_order_parts b (c ∷ h) o =
    let parts = and_parts (comes_before b c) (is_in_order (c ∷ h)) o in
    let rest = in_order_parts c h parts.1 in
    (and_from _ _ parts.0 (list_all-weaker (comes_before c) (comes_before b) (λ d. comes_before-trans b c d parts.0) h rest.0), parts.1)

-- and a batch that comes before all can be put in front
pub in_order_cons : (b : Batch) (h : Holding) → list_all (comes_before b) h ≡ true → is_in_order h ≡ true → is_in_order (b ∷ h) ≡ true
in_order_cons b [] first o = refl
in_order_cons b (c ∷ h) first o = and_from _ _ (and_parts (comes_before b c) (list_all (comes_before b) h) first).0 o

-- nothing after a batch stands at its place
pub held_none-after : (b : Batch) (h : Holding) (agent seq : ℕ) → list_all (comes_before b) h ≡ true → is_batch_at agent seq b ≡ true → held h agent seq ≡ None
held_none-after b h agent seq first at = found_none (is_batch_at agent seq) (comes_before b) (λ c before. not_at-after b c agent seq before at) h first

-- ---- `put` and `filter` keep the order

-- what `put` leaves at a holding with a first batch
pub put_cases : (P : Holding → Type 0) (b c : Batch) (h : Holding)
    → (comes_before b c ≡ true → P (b ∷ c ∷ h))
    → (comes_before c b ≡ true → P (c ∷ put h b))
    → (is_batch_at b.agent b.seq c ≡ true → P (c ∷ h))
    → P (put (c ∷ h) b)
put_cases P b c h front later here =
    cond_both (comes_before b c) (b ∷ c ∷ h) _ P front (λ not_before.
    cond_both (comes_before c b) (c ∷ put h b) (c ∷ h) P later (λ not_after. here (same_place b c not_before not_after)))

-- what comes before all comes before what is put too
pub list_all_before-put : (a b : Batch) (h : Holding) → comes_before a b ≡ true → list_all (comes_before a) h ≡ true → list_all (comes_before a) (put h b) ≡ true
list_all_before-put a b [] before all = and_from _ _ before refl
list_all_before-put a b (c ∷ h) before all =
    let parts = and_parts (comes_before a c) (list_all (comes_before a) h) all in
    let rest = list_all_before-put a b h before parts.1 in
    put_cases (λ k. list_all (comes_before a) k ≡ true) b c h (λ _. and_from _ _ before all) (λ _. and_from _ _ parts.0 rest) (λ _. all)

-- `put` keeps the order
pub in_order-put : (h : Holding) (b : Batch) → is_in_order h ≡ true → is_in_order (put h b) ≡ true
in_order-put [] b o = refl
in_order-put (c ∷ h) b o =
    let parts = in_order_parts c h o in
    let rest = in_order-put h b parts.1 in
    put_cases (λ k. is_in_order k ≡ true) b c h
    (λ before. and_from _ _ before o)
    (λ after. in_order_cons c (put h b) (list_all_before-put c b h after parts.0) rest)
    (λ _. o)

-- and so does a filter
pub in_order-filter : (q : Batch → Bool) (h : Holding) → is_in_order h ≡ true → is_in_order (filter q h) ≡ true
in_order-filter q [] o = refl
in_order-filter q (b ∷ h) o =
    let parts = in_order_parts b h o in
    let rest = in_order-filter q h parts.1 in
    cond_both (q b) (b ∷ filter q h) (filter q h) (λ k. is_in_order k ≡ true)
    (λ _. in_order_cons b (filter q h) (list_all-filter (comes_before b) q h parts.0) rest)
    (λ _. rest)

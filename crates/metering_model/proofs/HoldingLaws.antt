-- Holdings are maps: what `put` and `up_to` leave at each place, and when two holdings are one.
use Rattle.std.proofs.Common.{◌≡◌, ℕ, ◌<◌, ◌≤◌, ◌⊎◌, true, false, cond, leb, [], ◌∷◌, Some, None, unwrap_or, refl, sym, ap, subst, ◌∙◌, arith, inl, inr}
use Rattle.std.specs.Prelude.{if◌then◌else◌}
use Rattle.std.specs.List.{list_all}
use Rattle.std.proofs.lemmas.Bool.{and_from, cond_both, cond-true, cond-false, cases_Bool, cases_lt, leb-true, leb-false, le-leb, false_from_ne_true}
use Rattle.std.specs.Prelude.{All}
use Rattle.std.proofs.lemmas.List.Elements.{All-nil, All-cons, All-head, All-tail, All-filter}
use Rattle.metering_model.specs.Batch.{Batch, IsWellFormed}
use Rattle.metering_model.specs.Cut.{Cut, last_of}
use Rattle.metering_model.specs.Holding.{Holding, IsHolding, AgreeUpTo, comes_before, is_in_order, is_batch_at, held, put, up_to}
use Rattle.metering_model.proofs.BatchOrder.{found_passes, never_both, at_itself, not_at-before, put_cases, place_of_batch, in_order_parts, held_none-after, in_order-put, in_order-filter}

-- what is held at a place is a batch of that agent and sequence
pub held_place : (h : Holding) (agent seq : ℕ) (b : Batch) → held h agent seq ≡ Some b → (b.agent ≡ agent) × (b.seq ≡ seq)
held_place h agent seq b found = place_of_batch agent seq b (found_passes (is_batch_at agent seq) (λ _. true) h b (always h) found).0
  where
    always : (k : Holding) → list_all (λ _. true) k ≡ true
    always [] = refl
    always (c ∷ k) = always k

-- ---- what is put

-- the empty holding
pub IsHolding-nil : IsHolding []
IsHolding-nil = record { in_order = refl; batches = All-nil IsWellFormed }

all_put : (h : Holding) (b : Batch) → IsWellFormed b → All IsWellFormed h → All IsWellFormed (put h b)
all_put [] b new all = All-cons IsWellFormed b [] new all
all_put (c ∷ h) b new all =
    let rest = all_put h b new (All-tail IsWellFormed c h all) in
    put_cases (All IsWellFormed) b c h
    (λ _. All-cons IsWellFormed b (c ∷ h) new all)
    (λ _. All-cons IsWellFormed c (put h b) (All-head IsWellFormed c h all) rest)
    (λ _. all)

-- a holding that a batch is put into stays one
pub IsHolding-put : (h : Holding) (b : Batch) → IsHolding h → IsWellFormed b → IsHolding (put h b)
IsHolding-put h b ok new = record { in_order = in_order-put h b ok.in_order; batches = all_put h b new ok.batches }

-- a place that is not the batch's has what it had
pub held-put_other : (h : Holding) (b : Batch) (agent seq : ℕ) → is_batch_at agent seq b ≡ false → held (put h b) agent seq ≡ held h agent seq
held-put_other [] b agent seq other = cond-false (is_batch_at agent seq b) (Some b) None other
held-put_other (c ∷ h) b agent seq other =
    let rest = held-put_other h b agent seq other in
    put_cases (λ k. held k agent seq ≡ held (c ∷ h) agent seq) b c h
    (λ _. cond-false (is_batch_at agent seq b) (Some b) (held (c ∷ h) agent seq) other)
    (λ _. ap (cond (is_batch_at agent seq c) (Some c)) rest)
    (λ _. refl)

-- a batch put in front of all those that come after it is found there
put_first : (b : Batch) (h : Holding) → is_in_order (b ∷ h) ≡ true → held (b ∷ h) b.agent b.seq ≡ Some (unwrap_or (held h b.agent b.seq) b)
put_first b h o =
    let none = held_none-after b h b.agent b.seq (in_order_parts b h o).0 (at_itself b) in
    cond-true (is_batch_at b.agent b.seq b) (Some b) (held h b.agent b.seq) (at_itself b) ∙ ap (λ x. Some (unwrap_or x b)) (sym none)

-- a first batch of another place is passed over
held_past : (c : Batch) (h : Holding) (agent seq : ℕ) → is_batch_at agent seq c ≡ false → held (c ∷ h) agent seq ≡ held h agent seq
held_past c h agent seq other = cond-false (is_batch_at agent seq c) (Some c) (held h agent seq) other

-- what `held-put_same` says, by recursion
put_in_order : (h : Holding) (b : Batch) → is_in_order h ≡ true → held (put h b) b.agent b.seq ≡ Some (unwrap_or (held h b.agent b.seq) b)
put_in_order [] b o = put_first b [] refl
put_in_order (c ∷ h) b o =
    let rest = put_in_order h b (in_order_parts c h o).1 in
    put_cases (λ k. held k b.agent b.seq ≡ Some (unwrap_or (held (c ∷ h) b.agent b.seq) b)) b c h
    (λ before. put_first b (c ∷ h) (and_from _ _ before o))
    (λ after. let past = λ (k : Holding). held_past c k b.agent b.seq (not_at-before c b b.agent b.seq after (at_itself b)) in
    past (put h b) ∙ (rest ∙ ap (λ x. Some (unwrap_or x b)) (sym (past h))))
    (λ at. let here = cond-true (is_batch_at b.agent b.seq c) (Some c) (held h b.agent b.seq) at in
    here ∙ ap (λ x. Some (unwrap_or x b)) (sym here))

-- the batch's place has the batch that it had, or this one
pub held-put_same : (h : Holding) (b : Batch) → IsHolding h → held (put h b) b.agent b.seq ≡ Some (unwrap_or (held h b.agent b.seq) b)
held-put_same h b ok = put_in_order h b ok.in_order

-- every place at once
pub held-put : (h : Holding) (b : Batch) (agent seq : ℕ) → IsHolding h → held (put h b) agent seq ≡ (if is_batch_at agent seq b then Some (unwrap_or (held h agent seq) b) else held h agent seq)
held-put h b agent seq ok =
    cond_both (is_batch_at agent seq b) (Some (unwrap_or (held h agent seq) b)) (held h agent seq) (λ x. held (put h b) agent seq ≡ x)
    (λ at. let place = place_of_batch agent seq b at in
    let Has = λ (a s : ℕ). held (put h b) a s ≡ Some (unwrap_or (held h a s) b) in
    subst (λ a. Has a seq) place.0 (subst (Has b.agent) place.1 (held-put_same h b ok)))
    (λ not. held-put_other h b agent seq not)

-- a place that had a batch keeps it
pub held-put_kept : (h : Holding) (b c : Batch) (agent seq : ℕ) → IsHolding h → held h agent seq ≡ Some c → held (put h b) agent seq ≡ Some c
held-put_kept h b c agent seq ok found =
    held-put h b agent seq ok
    ∙ cond_both (is_batch_at agent seq b) (Some (unwrap_or (held h agent seq) b)) (held h agent seq) (λ x. x ≡ Some c)
    (λ _. ap (λ x. Some (unwrap_or x b)) found)
    (λ _. found)

-- ---- what is up to a cut

-- the part of a holding up to a cut is a holding
pub IsHolding-up_to : (h : Holding) (cut : Cut) → IsHolding h → IsHolding (up_to cut h)
IsHolding-up_to h cut ok = record {
  in_order = in_order-filter _ h ok.in_order;
  batches = All-filter (λ b. leb b.seq (last_of cut b.agent)) IsWellFormed h ok.batches;
}

-- what a cut leaves of a holding with a first batch
pub up_to_cases : (P : Holding → Type 0) (cut : Cut) (b : Batch) (h : Holding)
    → (b.seq ≤ last_of cut b.agent → P (b ∷ up_to cut h))
    → (last_of cut b.agent < b.seq → P (up_to cut h))
    → P (up_to cut (b ∷ h))
up_to_cases P cut b h within beyond =
    cond_both (leb b.seq (last_of cut b.agent)) (b ∷ up_to cut h) (up_to cut h) P (λ t. within (leb-true _ _ t)) (λ f. beyond (leb-false _ _ f))

-- a batch beyond the cut stands at no place within it
not_at-within : (cut : Cut) (b : Batch) (agent seq : ℕ) → last_of cut b.agent < b.seq → seq ≤ last_of cut agent → is_batch_at agent seq b ≡ false
not_at-within cut b agent seq beyond within = false_from_ne_true _ (λ at.
    let place = place_of_batch agent seq b at in
    let same : last_of cut b.agent ≡ last_of cut agent = ap (last_of cut) place.0 in
    omega arith)

-- and one within it at no place beyond
not_at-beyond : (cut : Cut) (b : Batch) (agent seq : ℕ) → b.seq ≤ last_of cut b.agent → last_of cut agent < seq → is_batch_at agent seq b ≡ false
not_at-beyond cut b agent seq within beyond = false_from_ne_true _ (λ at.
    let place = place_of_batch agent seq b at in
    let same : last_of cut b.agent ≡ last_of cut agent = ap (last_of cut) place.0 in
    omega arith)

-- a place within the cut has what it had
pub held-up_to : (cut : Cut) (h : Holding) (agent seq : ℕ) → seq ≤ last_of cut agent → held (up_to cut h) agent seq ≡ held h agent seq
held-up_to cut [] agent seq within = refl
held-up_to cut (b ∷ h) agent seq within =
    let rest = held-up_to cut h agent seq within in
    up_to_cases (λ k. held k agent seq ≡ held (b ∷ h) agent seq) cut b h
    (λ _. ap (cond (is_batch_at agent seq b) (Some b)) rest)
    (λ beyond. rest ∙ sym (held_past b h agent seq (not_at-within cut b agent seq beyond within)))

-- and one beyond it has nothing
pub held-up_to_beyond : (cut : Cut) (h : Holding) (agent seq : ℕ) → last_of cut agent < seq → held (up_to cut h) agent seq ≡ None
held-up_to_beyond cut [] agent seq beyond = refl
held-up_to_beyond cut (b ∷ h) agent seq beyond =
    let rest = held-up_to_beyond cut h agent seq beyond in
    up_to_cases (λ k. held k agent seq ≡ None) cut b h
    (λ within. held_past b (up_to cut h) agent seq (not_at-beyond cut b agent seq within beyond) ∙ rest)
    (λ _. rest)

-- what is up to a cut is all up to it
pub up_to-up_to : (cut : Cut) (h : Holding) → up_to cut (up_to cut h) ≡ up_to cut h
up_to-up_to cut [] = refl
up_to-up_to cut (b ∷ h) =
    let rest = up_to-up_to cut h in
    up_to_cases (λ k. up_to cut k ≡ k) cut b h
    (λ within. cond-true _ (b ∷ up_to cut (up_to cut h)) (up_to cut (up_to cut h)) (le-leb b.seq (last_of cut b.agent) within) ∙ ap (λ k. b ∷ k) rest)
    (λ _. rest)

-- A holding agrees with its part up to the cut.
pub AgreeUpTo-up_to : (cut : Cut) (h : Holding) → AgreeUpTo cut (up_to cut h) h
AgreeUpTo-up_to cut h = record { same = held-up_to cut h }

-- What is put beyond a cut changes nothing up to it.
pub AgreeUpTo-put : (cut : Cut) (h : Holding) (b : Batch) → last_of cut b.agent < b.seq → AgreeUpTo cut (put h b) h
AgreeUpTo-put cut h b beyond = record {
  same = λ agent seq within. held-put_other h b agent seq (not_at-within cut b agent seq beyond within);
}

-- ---- equality by look-ups

-- what a holding has at the place of its first batch
held_first : (b : Batch) (h : Holding) → held (b ∷ h) b.agent b.seq ≡ Some b
held_first b h = cond-true (is_batch_at b.agent b.seq b) (Some b) (held h b.agent b.seq) (at_itself b)

-- a batch that a holding has is its first, or comes after it
first_or_after : (c b : Batch) (k : Holding) → is_in_order (c ∷ k) ≡ true → held (c ∷ k) b.agent b.seq ≡ Some b → (c ≡ b) ⊎ (comes_before c b ≡ true)
first_or_after c b k o found = elim (cases_Bool (is_batch_at b.agent b.seq c)) [
  | inl at ↦ let same : Some c ≡ Some b = sym (cond-true (is_batch_at b.agent b.seq c) (Some c) (held k b.agent b.seq) at) ∙ found in inl (cc)
  | inr not ↦ let later = sym (cond-false (is_batch_at b.agent b.seq c) (Some c) (held k b.agent b.seq) not) ∙ found in
      inr (found_passes (is_batch_at b.agent b.seq) (comes_before c) k b (in_order_parts c k o).0 later).1
]

-- so two holdings with the same look-ups have one first batch
same_first : (b c : Batch) (h k : Holding) → is_in_order (b ∷ h) ≡ true → is_in_order (c ∷ k) ≡ true → ((agent seq : ℕ) → held (b ∷ h) agent seq ≡ held (c ∷ k) agent seq) → b ≡ c
same_first b c h k o p same = elim (first_or_after c b k p (sym (same b.agent b.seq) ∙ held_first b h)) [
  | inl e ↦ sym e
  | inr after ↦ elim (first_or_after b c h o (same c.agent c.seq ∙ held_first c k)) [
    | inl e ↦ e
    | inr before ↦ absurd (never_both b c before after)
  ]
]

-- and the same look-ups behind it
same_rest : (b c : Batch) (h k : Holding) → list_all (comes_before b) h ≡ true → list_all (comes_before c) k ≡ true → b ≡ c →
    (agent seq : ℕ) → held (b ∷ h) agent seq ≡ held (c ∷ k) agent seq → held h agent seq ≡ held k agent seq
same_rest b c h k before before' e agent seq same = elim (cases_Bool (is_batch_at agent seq b)) [
  | inl at ↦ held_none-after b h agent seq before at ∙ sym (held_none-after c k agent seq before' (ap (is_batch_at agent seq) (sym e) ∙ at))
  | inr not ↦ sym (cond-false (is_batch_at agent seq b) (Some b) (held h agent seq) not) ∙ (same ∙ cond-false (is_batch_at agent seq c) (Some c) (held k agent seq) (ap (is_batch_at agent seq) (sym e) ∙ not))
]

-- what `same_holding` says, by recursion
same_in_order : (h k : Holding) → is_in_order h ≡ true → is_in_order k ≡ true → ((agent seq : ℕ) → held h agent seq ≡ held k agent seq) → h ≡ k
same_in_order [] [] o p same = refl
same_in_order [] (c ∷ k) o p same = let found : None ≡ Some c = same c.agent c.seq ∙ held_first c k in absurd (cc)
same_in_order (b ∷ h) [] o p same = let found : None ≡ Some b = sym (same b.agent b.seq) ∙ held_first b h in absurd (cc)
same_in_order (b ∷ h) (c ∷ k) o p same =
    let left = in_order_parts b h o in
    let right = in_order_parts c k p in
    let first = same_first b c h k o p same in
    ap (λ x. x ∷ h) first ∙ ap (λ t. c ∷ t) (same_in_order h k left.1 right.1 (λ agent seq. same_rest b c h k left.0 right.0 first agent seq (same agent seq)))

-- Two holdings with the same batch at each place are one.
pub same_holding : (h k : Holding) → IsHolding h → IsHolding k → ((agent seq : ℕ) → held h agent seq ≡ held k agent seq) → h ≡ k
same_holding h k ok ok' same = same_in_order h k ok.in_order ok'.in_order same

-- A batch of a place that has one changes nothing.
pub put_held : (h : Holding) (b c : Batch) → IsHolding h → held h b.agent b.seq ≡ Some c → put h b ≡ h
put_held h b c ok found = same_in_order (put h b) h (in_order-put h b ok.in_order) ok.in_order (λ agent seq.
    held-put h b agent seq ok
    ∙ cond_both (is_batch_at agent seq b) (Some (unwrap_or (held h agent seq) b)) (held h agent seq) (λ x. x ≡ held h agent seq)
    (λ at. let place = place_of_batch agent seq b at in
    let here : held h agent seq ≡ Some c = subst (λ a. held h a seq ≡ Some c) place.0 (subst (λ s. held h b.agent s ≡ Some c) place.1 found) in
    ap (λ x. Some (unwrap_or x b)) here ∙ sym here)
    (λ _. refl))

-- Two that agree up to a cut have the same batches up to it.
pub same_up_to : (cut : Cut) (h k : Holding) → IsHolding h → IsHolding k → AgreeUpTo cut h k → up_to cut h ≡ up_to cut k
same_up_to cut h k ok ok' agree = same_holding (up_to cut h) (up_to cut k) (IsHolding-up_to h cut ok) (IsHolding-up_to k cut ok') (λ agent seq. elim (cases_lt (last_of cut agent) seq) [
  | inl beyond ↦ held-up_to_beyond cut h agent seq beyond ∙ sym (held-up_to_beyond cut k agent seq beyond)
  | inr within ↦ held-up_to cut h agent seq within ∙ (agree.same agent seq within ∙ sym (held-up_to cut k agent seq within))
])

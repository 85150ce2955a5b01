-- A front goes on from the cut that it is taken of, and is the greatest cut that does.
use Rattle.std.proofs.Common.{◌≡◌, ℕ, zero, suc, ◌+◌, ◌-◌, ◌<◌, ◌≤◌, Bool, true, false, cond, List, [], ◌∷◌, length, map, filter, refl, sym, ap, subst, ◌∙◌, arith, Option, Some, None, inl, inr, max, fold, slice_index, is_some}
use Rattle.std.specs.Prelude.{slice_get, ◌==◌}
use Rattle.std.specs.List.{list_all, range_with_len, AllZip}
use Rattle.std.specs.Option.{option_map_or, IsSomeAnd}
use Rattle.std.proofs.lemmas.Bool.{and_parts, and_from, cases_Bool, cases_lt, cond-false, eq-eqb, both_ways}
use Rattle.std.proofs.lemmas.Option.{same_Some, none-some}
use Rattle.metering_model.specs.Batch.{Batch}
use Rattle.metering_model.specs.Cut.{Cut, IsAtLeast, last_of}
use Rattle.metering_model.specs.Holding.{Holding, IsPartOf, is_batch_at, held, sequences_of}
use Rattle.metering_model.specs.Front.{is_due, IsDueAt, AreDueBetween, can_close, front_of, front}
use Rattle.metering_model.proofs.BatchOrder.{place_of_batch}
use Rattle.metering_model.proofs.Journals.{sequences-of_agent, sequences-of_another}

-- the cut is at least the one before, and each batch in between is held and due
pub record GoesOn (base p : ℕ) (h : Holding) (from to : Cut) : Type 0 where
  pub grows : IsAtLeast to from
  pub due : AreDueBetween base p h from to

pub IsDueAt-more : (base p : ℕ) (h k : Holding) (agent seq : ℕ) → IsPartOf h k → IsDueAt base p h agent seq → IsDueAt base p k agent seq
IsDueAt-more base p h k agent seq more due = either (held h agent seq) refl due
  where
    either : (o : Option Batch) → held h agent seq ≡ o → IsSomeAnd o (λ b. is_due base p b ≡ true) → IsDueAt base p k agent seq
    either None e d = absurd d
    either (Some b) e d = subst (λ o. IsSomeAnd o (λ b. is_due base p b ≡ true)) (sym (more.had agent seq b e)) d

pub GoesOn-more : (base p : ℕ) (h k : Holding) (from to : Cut) → IsPartOf h k → GoesOn base p h from to → GoesOn base p k from to
GoesOn-more base p h k from to more g = record {
  grows = g.grows;
  due = λ agent seq above within. IsDueAt-more base p h k agent seq more (g.due agent seq above within);
}

-- ---- one agent

all_in_range : (test : ℕ → Bool) (k n s : ℕ) → list_all test (range_with_len k n) ≡ true → k ≤ s → s < k + n → test s ≡ true
all_in_range test k zero s h low high = absurd (omega arith)
all_in_range test k (suc n) s h low high =
    let parts = and_parts (test k) (list_all test (range_with_len (k + 1) n)) h in
    elim (cases_lt k s) [
      | inl above ↦ all_in_range test (k + 1) n s parts.1 (omega arith) (omega arith)
      | inr here ↦ let same : k ≡ s = omega arith in subst (λ x. test x ≡ true) same parts.0
    ]

-- what the last sequence of an agent may be, from one on
pub record IsCloseable (base p : ℕ) (h : Holding) (agent after upto : ℕ) : Type 0 where
  pub grows : after ≤ upto
  pub due : (seq : ℕ) → after < seq → seq ≤ upto → IsDueAt base p h agent seq

due_from_test : (base p : ℕ) (o : Option Batch) → option_map_or (is_due base p) o false ≡ true → IsSomeAnd o (λ b. is_due base p b ≡ true)
due_from_test base p None e = both_ways false refl e
due_from_test base p (Some b) e = e

can_close_due : (base p : ℕ) (h : Holding) (agent after upto : ℕ) → can_close base p h agent after upto ≡ true → (seq : ℕ) → after < seq → seq ≤ upto → IsDueAt base p h agent seq
can_close_due base p h agent after upto e seq above within =
    due_from_test base p (held h agent seq) (all_in_range (λ s. option_map_or (is_due base p) (held h agent s) false) (after + 1) (upto - after) seq e (omega arith) (omega arith))

greatest : (base p : ℕ) (h : Holding) (agent after now : ℕ) (xs : List ℕ) → IsCloseable base p h agent after now → IsCloseable base p h agent after (fold max now (filter (can_close base p h agent after) xs))
greatest base p h agent after now [] is = is
greatest base p h agent after now (x ∷ xs) is = elim (cases_Bool (can_close base p h agent after x)) [
  | inl e ↦ subst (λ t. IsCloseable base p h agent after (fold max now (cond t (x ∷ rest) rest))) (sym e) (greatest base p h agent after (max now x) xs (one_more e))
  | inr e ↦ subst (λ t. IsCloseable base p h agent after (fold max now (cond t (x ∷ rest) rest))) (sym e) (greatest base p h agent after now xs is)
]
  where
    rest : List ℕ
    rest = filter (can_close base p h agent after) xs

    one_more : can_close base p h agent after x ≡ true → IsCloseable base p h agent after (max now x)
    one_more e = elim (cases_lt now x) [
      | inl less ↦ let m : x ≡ max now x = omega arith in
          subst (IsCloseable base p h agent after) m (record { grows = let g = is.grows in omega arith; due = can_close_due base p h agent after x e })
      | inr more ↦ let m : now ≡ max now x = omega arith in subst (IsCloseable base p h agent after) m is
    ]

front_of_closes : (base p : ℕ) (h : Holding) (agent after : ℕ) → IsCloseable base p h agent after (front_of base p h agent after)
front_of_closes base p h agent after = greatest base p h agent after after (sequences_of agent h) (record { grows = omega arith; due = λ seq above within. absurd (omega arith) })

-- ---- all agents

index_within : (f : ℕ → ℕ) (k n a : ℕ) → a < n → slice_index (map f (range_with_len k n)) a ≡ f (k + a)
index_within f k zero a h = absurd (omega arith)
index_within f k (suc n) zero h = let e : k ≡ k + 0 = omega arith in ap f e
index_within f k (suc n) (suc a) h = let e : k + 1 + a ≡ k + suc a = omega arith in index_within f (k + 1) n a (omega arith) ∙ ap f e

index_beyond : (f : ℕ → ℕ) (k n a : ℕ) → n ≤ a → slice_index (map f (range_with_len k n)) a ≡ 0
index_beyond f k zero a h = refl
index_beyond f k (suc n) zero h = absurd (omega arith)
index_beyond f k (suc n) (suc a) h = index_beyond f (k + 1) n a (omega arith)

zip_range : (xs : List ℕ) (f : ℕ → ℕ) (k : ℕ) → ((i a : ℕ) → i < length xs → a ≡ k + i → slice_index xs i ≤ f a) → AllZip (λ a b. a ≤ b) xs (map f (range_with_len k (length xs)))
zip_range [] f k h = tt
zip_range (x ∷ xs) f k h = (h 0 k (omega arith) (omega arith), zip_range xs f (k + 1) (λ i a less e. h (suc i) a (omega arith) (omega arith)))

pub front_goes_on : (base p : ℕ) (h : Holding) (cut : Cut) → GoesOn base p h cut (front base h cut p)
front_goes_on base p h cut = record {
  grows = zip_range cut f 1 (λ i a less e. let is : a ≡ suc i = omega arith in subst (λ a. slice_index cut i ≤ f a) (sym is) (closes (suc i)).grows);
  due = due;
}
  where
    f : ℕ → ℕ
    f agent = front_of base p h agent (last_of cut agent)

    closes : (agent : ℕ) → IsCloseable base p h agent (last_of cut agent) (f agent)
    closes agent = front_of_closes base p h agent (last_of cut agent)

    due : (agent seq : ℕ) → last_of cut agent < seq → seq ≤ last_of (front base h cut p) agent → IsDueAt base p h agent seq
    due zero seq above within = absurd (omega arith)
    due (suc a) seq above within = elim (cases_lt a (length cut)) [
      | inl inside ↦
          let at : slice_index (front base h cut p) a ≡ f (1 + a) = index_within f 1 (length cut) a inside in
          let is : 1 + a ≡ suc a = omega arith in
          let at' : slice_index (front base h cut p) a ≡ f (suc a) = at ∙ ap f is in
          (closes (suc a)).due seq above (subst (λ m. seq ≤ m) at' within)
      | inr outside ↦ let none : slice_index (front base h cut p) a ≡ 0 = index_beyond f 1 (length cut) a outside in absurd (omega (arith, subst (λ m. seq ≤ m) none within))
    ]

length-range : (k n : ℕ) → length (range_with_len k n) ≡ n
length-range k zero = refl
length-range k (suc n) = omega (arith, length-range (k + 1) n)

length-map : (f : ℕ → ℕ) (xs : List ℕ) → length (map f xs) ≡ length xs
length-map f [] = refl
length-map f (x ∷ xs) = ap (λ n. suc n) (length-map f xs)

pub length-front : (base p : ℕ) (h : Holding) (cut : Cut) → length (front base h cut p) ≡ length cut
length-front base p h cut = length-map _ (range_with_len 1 (length cut)) ∙ length-range 1 (length cut)

-- ---- a front is the greatest such cut

all_of_range : (test : ℕ → Bool) (k n : ℕ) → ((s : ℕ) → k ≤ s → s < k + n → test s ≡ true) → list_all test (range_with_len k n) ≡ true
all_of_range test k zero h = refl
all_of_range test k (suc n) h = and_from (test k) (list_all test (range_with_len (k + 1) n)) (h k (omega arith) (omega arith)) (all_of_range test (k + 1) n (λ s low high. h s (omega arith) (omega arith)))

test_from_due : (base p : ℕ) (o : Option Batch) → IsSomeAnd o (λ b. is_due base p b ≡ true) → option_map_or (is_due base p) o false ≡ true
test_from_due base p None d = absurd d
test_from_due base p (Some b) d = d

-- what all batches up to it are held and due for can be closed
closes_where_due : (base p : ℕ) (h : Holding) (agent after upto : ℕ) → ((seq : ℕ) → after < seq → seq ≤ upto → IsDueAt base p h agent seq) → can_close base p h agent after upto ≡ true
closes_where_due base p h agent after upto due =
    all_of_range (λ s. option_map_or (is_due base p) (held h agent s) false) (after + 1) (upto - after) (λ s low high. test_from_due base p (held h agent s) (due s (omega arith) (omega arith)))

-- what is held has one of the agent's sequences
held_sequence : (agent seq : ℕ) (h : Holding) → is_some (held h agent seq) ≡ true → (k : ℕ) × (slice_get (sequences_of agent h) k ≡ Some seq)
held_sequence agent seq [] e = absurd (cc)
held_sequence agent seq (c ∷ h) e = elim (cases_Bool (is_batch_at agent seq c)) [
  | inl at ↦
      let place = place_of_batch agent seq c at in
      let first = sequences-of_agent agent c h (eq-eqb c.agent agent place.0) in
      (0, ap (λ xs. slice_get xs 0) first ∙ ap Some place.1)
  | inr past ↦
      let rest = held_sequence agent seq h (ap is_some (sym (cond-false (is_batch_at agent seq c) (Some c) (held h agent seq) past)) ∙ e) in
      elim (cases_Bool (c.agent == agent)) [
        | inl same ↦ (suc rest.0, ap (λ xs. slice_get xs (suc rest.0)) (sequences-of_agent agent c h same) ∙ rest.1)
        | inr other ↦ (rest.0, ap (λ xs. slice_get xs rest.0) (sequences-of_another agent c h other) ∙ rest.1)
      ]
]

max_from : (xs : List ℕ) (now : ℕ) → now ≤ fold max now xs
max_from [] now = omega arith
max_from (x ∷ xs) now = let rest = max_from xs (max now x) in omega (arith, rest)

max_has : (test : ℕ → Bool) (xs : List ℕ) (now k s : ℕ) → slice_get xs k ≡ Some s → test s ≡ true → s ≤ fold max now (filter test xs)
max_has test [] now k s e t = absurd (none-some s e)
max_has test (x ∷ xs) now zero s e t =
    let same : x ≡ s = same_Some x s e in
    let most = max_from (filter test xs) (max now x) in
    subst (λ b. s ≤ fold max now (cond b (x ∷ filter test xs) (filter test xs))) (sym (ap test same ∙ t)) (omega (arith, same, most))
max_has test (x ∷ xs) now (suc k) s e t = elim (cases_Bool (test x)) [
  | inl passes ↦ subst (λ b. s ≤ fold max now (cond b (x ∷ filter test xs) (filter test xs))) (sym passes) (max_has test xs (max now x) k s e t)
  | inr fails ↦ subst (λ b. s ≤ fold max now (cond b (x ∷ filter test xs) (filter test xs))) (sym fails) (max_has test xs now k s e t)
]

held_where_due : (base p : ℕ) (o : Option Batch) → IsSomeAnd o (λ b. is_due base p b ≡ true) → is_some o ≡ true
held_where_due base p None d = absurd d
held_where_due base p (Some b) d = refl

pub front_is_greatest : (base p : ℕ) (h : Holding) (cut : Cut) (agent seq : ℕ) → 1 ≤ agent → agent ≤ length cut → ((s : ℕ) → last_of cut agent < s → s ≤ seq → IsDueAt base p h agent s) → seq ≤ last_of (front base h cut p) agent
front_is_greatest base p h cut zero seq some within due = absurd (omega arith)
front_is_greatest base p h cut (suc a) seq some within due =
    let at : slice_index (front base h cut p) a ≡ f (1 + a) = index_within f 1 (length cut) a (omega arith) in
    let is : 1 + a ≡ suc a = omega arith in
    subst (λ m. seq ≤ m) (sym (at ∙ ap f is)) (elim (cases_lt (last_of cut (suc a)) seq) [
      | inr below ↦ let grows = (front_of_closes base p h (suc a) (last_of cut (suc a))).grows in omega (arith, grows, below)
      | inl above ↦
          let is_held = held_where_due base p (held h (suc a) seq) (due seq above (omega arith)) in
          let one = held_sequence (suc a) seq h is_held in
          max_has (can_close base p h (suc a) (last_of cut (suc a))) (sequences_of (suc a) h) (last_of cut (suc a)) one.0 seq one.1 (closes_where_due base p h (suc a) (last_of cut (suc a)) seq due)
    ])
  where
    f : ℕ → ℕ
    f agent = front_of base p h agent (last_of cut agent)

-- the front of a part is at or below that of the whole
pub front_of_part : (base p : ℕ) (h k : Holding) (cut : Cut) → IsPartOf h k → IsAtLeast (front base k cut p) (front base h cut p)
front_of_part base p h k cut part = at_least_at_each (front base h cut p) (front base k cut p) (length-front base p h cut ∙ sym (length-front base p k cut)) (λ i within.
    let inside : i < length cut = (let size = length-front base p h cut in omega (arith, size)) in
    let g = front_goes_on base p h cut in
    front_is_greatest base p k cut (suc i) (last_of (front base h cut p) (suc i)) (omega arith) (omega arith)
    (λ s above below. IsDueAt-more base p h k (suc i) s part (g.due (suc i) s above below)))
  where
    at_least_at_each : (c d : Cut) → length c ≡ length d → ((i : ℕ) → i < length c → slice_index c i ≤ slice_index d i) → IsAtLeast d c
    at_least_at_each [] [] size less = tt
    at_least_at_each [] (y ∷ d) size less = absurd (omega (arith, size))
    at_least_at_each (x ∷ c) [] size less = absurd (omega (arith, size))
    at_least_at_each (x ∷ c) (y ∷ d) size less = (less 0 (omega arith), at_least_at_each c d (omega (arith, size)) (λ i within. less (suc i) (omega arith)))

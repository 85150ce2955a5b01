-- Shelves next to each other: what is said of the batches on all of them is said of the shelf of one agent.
use Rattle.std.proofs.Common.{◌≡◌, ℕ, zero, suc, ◌+◌, ◌-◌, ◌<◌, ◌≤◌, Bool, true, false, cond, List, [], ◌∷◌, ◌++◌, length, drop, Option, Some, None, refl, sym, ap, subst, ◌∙◌, arith, inl, inr, get_or, set, drop-cons, length-append, replicate, Result, Ok, Err, append_assoc, All}
use Rattle.std.specs.Prelude.{◌==◌, nat_le, IfOk, IfErr, IsTrue, ◌↔◌}
use Rattle.std.proofs.lemmas.List.{length-replicate, append-nil, drop_all}
use Rattle.std.specs.Option.{option_or}
use Rattle.std.proofs.lemmas.Bool.{cases_Bool, cond-true, cond-false, cond_both}
use Rattle.std.proofs.lemmas.Bool.Decides.{nat_tests}
use Rattle.std.proofs.lemmas.List.Folds.{find-append}
use Rattle.std.proofs.lemmas.List.Elements.{All-nil, All-cons, All-head, All-tail, All-filter, filter-append}
use Rattle.std.proofs.lemmas.List.Concat.{flat_map-append}
use Rattle.metering_model.specs.Batch.{Batch, IsWellFormed}
use Rattle.metering_model.specs.Cut.{Cut, last_of}
use Rattle.metering_model.specs.Holding.{Holding, IsHolding, comes_before, is_batch_at, held, put, up_to}
use Rattle.metering_model.proofs.BatchOrder.{put_cases}
use Rattle.metering_model.proofs.HoldingLaws.{IsHolding-nil, IsHolding-put, IsHolding-up_to}
use Rattle.metering_model.specs.declared.BatchFault.{BatchFault}
use Rattle.metering_model.specs.BatchReading.{batch_in}
use Rattle.metering_model.proofs.BatchLaws.{IsWellFormed-read}
use Rattle.batch_view.specs.Batches.{batch_of, or_empty}
use Rattle.batch_store.specs.Stores.{Stored}
use Rattle.batch_store.specs.Inner.Shelves.{at_seq, up_to_seq, AreOf, AreShelves, on_shelves, stored_on, IsStore}

-- ---- where a batch is held

past_another : (b : Batch) (h : Holding) (agent s : ℕ) → (b.agent ≡ agent → ⊥) → held (b ∷ h) agent s ≡ held h agent s
past_another b h agent s other = cond-false (is_batch_at agent s b) (Some b) (held h agent s) (another b agent s other)
  where
    another : (b : Batch) (agent s : ℕ) → (b.agent ≡ agent → ⊥) → is_batch_at agent s b ≡ false
    another b agent s other = grind (arith, nat_tests)

not_of : (x : Holding) (k agent s : ℕ) → AreOf k x → (k ≡ agent → ⊥) → held x agent s ≡ None
not_of [] k agent s of other = refl
not_of (b ∷ x) k agent s of other = past_another b x agent s (λ same. other (sym of.0 ∙ same)) ∙ not_of x k agent s of.1 other

same_test : (b : Batch) (k s : ℕ) → b.agent ≡ k → is_batch_at k s b ≡ (b.seq == s)
same_test b k s e = grind (arith, nat_tests)

own : (x : Holding) (k s : ℕ) → AreOf k x → held x k s ≡ at_seq x s
own [] k s of = refl
own (b ∷ x) k s of = ap (λ t. cond t (Some b) (held x k s)) (same_test b k s of.0) ∙ ap (cond (b.seq == s) (Some b)) (own x k s of.1)

joined : (x rest : Holding) (agent s : ℕ) → held (x ++ rest) agent s ≡ option_or (held x agent s) (held rest agent s)
joined x rest agent s = find-append (is_batch_at agent s) x rest

none_before : (k agent s : ℕ) (xs : List Holding) → AreShelves k xs → agent < k → held (on_shelves xs) agent s ≡ None
none_before k agent s [] are less = refl
none_before k agent s (x ∷ xs) are less =
    joined x (on_shelves xs) agent s
    ∙ (ap (λ o. option_or o (held (on_shelves xs) agent s)) (not_of x k agent s are.0 (λ same. omega (arith, same, less)))
    ∙ none_before (k + 1) agent s xs are.1 (omega (arith, less)))

or_none : {X : Type 0} (o : Option X) → option_or o None ≡ o
or_none None = refl
or_none (Some x) = refl

pub held_shelf : (k i s : ℕ) (xs : List Holding) (d : Holding) → AreShelves k xs → i < length xs → held (on_shelves xs) (k + i) s ≡ at_seq (get_or xs i d) s
held_shelf k i s [] d are less = absurd (omega (arith, less))
held_shelf k zero s (x ∷ xs) d are less =
    let here : k + 0 ≡ k = omega arith in
    ap (λ a. held (x ++ on_shelves xs) a s) here
    ∙ (joined x (on_shelves xs) k s
    ∙ (ap (option_or (held x k s)) (none_before (k + 1) k s xs are.1 (omega arith)) ∙ (or_none (held x k s) ∙ own x k s are.0)))
held_shelf k (suc i) s (x ∷ xs) d are less =
    let next : k + suc i ≡ k + 1 + i = omega arith in
    joined x (on_shelves xs) (k + suc i) s
    ∙ (ap (λ o. option_or o (held (on_shelves xs) (k + suc i) s)) (not_of x k (k + suc i) s are.0 (λ same. omega (arith, same)))
    ∙ (ap (λ a. held (on_shelves xs) a s) next ∙ held_shelf (k + 1) i s xs d are.1 (omega (arith, less))))

-- of one agent, by its number
pub held_agent : (agent s : ℕ) (xs : List Holding) (x : Holding) → AreShelves 1 xs → 1 ≤ agent → agent ≤ length xs → x ≡ get_or xs (agent - 1) x → held (on_shelves xs) agent s ≡ at_seq x s
held_agent agent s xs x are low high e =
    let place : 1 + (agent - 1) ≡ agent = omega (arith, low) in
    ap (λ a. held (on_shelves xs) a s) (sym place) ∙ (held_shelf 1 (agent - 1) s xs x are (omega (arith, low, high)) ∙ ap (λ h. at_seq h s) (sym e))

-- of a store's value
pub held_store : (xs : List Holding) (now : Stored) (agent s : ℕ) (x : Holding) → stored_on xs ≡ now → IsStore xs → 1 ≤ agent → agent ≤ now.agents → x ≡ get_or xs (agent - 1) x → held now.batches agent s ≡ at_seq x s
held_store xs now agent s x same is low high e =
    let agents : length xs ≡ now.agents = ap (λ (v : Stored). v.agents) same in
    ap (λ (v : Stored). held v.batches agent s) (sym same) ∙ held_agent agent s xs x is.of_agents low (omega (arith, agents, high)) e

-- ---- nothing on the shelves

empty_shelves : (k n : ℕ) → AreShelves k (replicate n []) × (on_shelves (replicate n []) ≡ [])
empty_shelves k zero = (tt, refl)
empty_shelves k (suc n) = let rest = empty_shelves (k + 1) n in ((tt, rest.0), rest.1)

pub no_batches : (agents : ℕ) (xs : List Holding) → 1 ≤ agents → agents ≤ 64 → xs ≡ replicate agents [] → IsStore xs × (on_shelves xs ≡ []) × (length xs ≡ agents)
no_batches agents xs low high e =
    let none = empty_shelves 1 agents in
    let count : length xs ≡ agents = ap length e ∙ length-replicate agents [] in
    let batches : on_shelves xs ≡ [] = ap on_shelves e ∙ none.1 in (
      record {
        of_agents = subst (AreShelves 1) (sym e) none.0;
        is_stored = record {
          agents_from = omega (arith, count, low);
          agents_to = omega (arith, count, high);
          is_holding = subst IsHolding (sym batches) IsHolding-nil;
          of_agents = subst (All (λ b. b.agent ≤ length xs)) (sym batches) (All-nil _);
        };
      },
      batches,
      count,
    )

-- ---- what is put

before_agent : (b c : Batch) → b.agent < c.agent → comes_before b c ≡ true
before_agent b c less = grind (arith, nat_tests)

not_before_agent : (b c : Batch) → c.agent < b.agent → comes_before b c ≡ false
not_before_agent b c less = grind (arith, nat_tests)

put_before : (b : Batch) (k : ℕ) (xs : List Holding) → AreShelves k xs → b.agent < k → put (on_shelves xs) b ≡ b ∷ on_shelves xs
put_before b k [] are less = refl
put_before b k ([] ∷ xs) are less = put_before b (k + 1) xs are.1 (omega (arith, less))
put_before b k ((c ∷ x) ∷ xs) are less = cond-true (comes_before b c) _ _ (before_agent b c (omega (arith, are.0.0, less)))

put_own : (b : Batch) (x : Holding) (xs : List Holding) → AreShelves (b.agent + 1) xs → put (x ++ on_shelves xs) b ≡ put x b ++ on_shelves xs
put_own b [] xs are = put_before b (b.agent + 1) xs are (omega arith)
put_own b (c ∷ x) xs are = elim (cases_Bool (comes_before b c)) [
  | inl t ↦ cond-true (comes_before b c) _ _ t ∙ sym (ap (λ h. h ++ on_shelves xs) (cond-true (comes_before b c) (b ∷ c ∷ x) _ t))
  | inr f ↦ elim (cases_Bool (comes_before c b)) [
    | inl t ↦ cond-false (comes_before b c) _ _ f ∙ (cond-true (comes_before c b) _ _ t ∙ (ap (λ h. c ∷ h) (put_own b x xs are)
        ∙ sym (ap (λ h. h ++ on_shelves xs) (cond-false (comes_before b c) (b ∷ c ∷ x) _ f ∙ cond-true (comes_before c b) (c ∷ put x b) (c ∷ x) t))))
    | inr g ↦ cond-false (comes_before b c) _ _ f ∙ (cond-false (comes_before c b) _ _ g
        ∙ sym (ap (λ h. h ++ on_shelves xs) (cond-false (comes_before b c) (b ∷ c ∷ x) _ f ∙ cond-false (comes_before c b) (c ∷ put x b) (c ∷ x) g)))
  ]
]

put_past : (b : Batch) (k : ℕ) (x rest : Holding) → AreOf k x → k < b.agent → put (x ++ rest) b ≡ x ++ put rest b
put_past b k [] rest of less = refl
put_past b k (c ∷ x) rest of less =
    cond-false (comes_before b c) _ _ (not_before_agent b c (omega (arith, of.0, less)))
    ∙ (cond-true (comes_before c b) _ _ (before_agent c b (omega (arith, of.0, less))) ∙ ap (λ h. c ∷ h) (put_past b k x rest of.1 less))

of_put : (b : Batch) (x : Holding) → AreOf b.agent x → AreOf b.agent (put x b)
of_put b [] of = (refl, tt)
of_put b (c ∷ x) of = put_cases (AreOf b.agent) b c x (λ _. (refl, of)) (λ _. (of.0, of_put b x of.1)) (λ _. of)

-- the shelf at i is that of agent k + i
shelf_of : (k i : ℕ) (xs : List Holding) (d : Holding) → AreShelves k xs → i < length xs → AreOf (k + i) (get_or xs i d)
shelf_of k i [] d are less = absurd (omega (arith, less))
shelf_of k zero (x ∷ xs) d are less = let here : k ≡ k + 0 = omega arith in subst (λ a. AreOf a x) here are.0
shelf_of k (suc i) (x ∷ xs) d are less = let next : k + 1 + i ≡ k + suc i = omega arith in subst (λ a. AreOf a (get_or xs i d)) next (shelf_of (k + 1) i xs d are.1 (omega (arith, less)))

record IsPut (k : ℕ) (xs ys : List Holding) (b : Batch) : Type 0 where
  pub are : AreShelves k ys
  pub batches : on_shelves ys ≡ put (on_shelves xs) b
  pub count : length ys ≡ length xs

put_at : (b : Batch) (k i : ℕ) (xs : List Holding) (d : Holding) → AreShelves k xs → b.agent ≡ k + i → i < length xs → IsPut k xs (set xs i (put (get_or xs i d) b)) b
put_at b k i [] d are agent less = absurd (omega (arith, less))
put_at b k zero (x ∷ xs) d are agent less =
    let here : k ≡ b.agent = omega (arith, agent) in
    let next : k + 1 ≡ b.agent + 1 = omega (arith, agent) in
    record {
      are = (subst (λ a. AreOf a (put x b)) (sym here) (of_put b x (subst (λ a. AreOf a x) here are.0)), are.1);
      batches = sym (put_own b x xs (subst (λ a. AreShelves a xs) next are.1));
      count = refl;
    }
put_at b k (suc i) (x ∷ xs) d are agent less =
    let rest = put_at b (k + 1) i xs d are.1 (omega (arith, agent)) (omega (arith, less)) in
    record {
      are = (are.0, rest.are);
      batches = ap (λ h. x ++ h) rest.batches ∙ sym (put_past b k x (on_shelves xs) are.0 (omega (arith, agent)));
      count = ap (λ n. suc n) rest.count;
    }

all_put : (P : Batch → Type 0) (h : Holding) (b : Batch) → P b → All P h → All P (put h b)
all_put P [] b new all = All-cons P b [] new all
all_put P (c ∷ h) b new all =
    let rest = all_put P h b new (All-tail P c h all) in
    put_cases (All P) b c h (λ _. All-cons P b (c ∷ h) new all) (λ _. All-cons P c (put h b) (All-head P c h all) rest) (λ _. all)

-- bytes that have an agent are a batch
pub well_read : (bytes : List ℕ) → 1 ≤ (batch_of bytes).agent → IsWellFormed (batch_of bytes)
unfolding batch_of
well_read bytes low = by (batch_in bytes) refl low
  where
    by : (r : Result Batch BatchFault) → batch_in bytes ≡ r → 1 ≤ (or_empty r).agent → IsWellFormed (or_empty r)
    by (Ok b) e low = IsWellFormed-read bytes b e
    by (Err f) e low = absurd (omega (arith, low))

set_itself : (xs : List Holding) (i : ℕ) (x : Holding) → x ≡ get_or xs i x → set xs i x ≡ xs
set_itself [] i x e = refl
set_itself (y ∷ xs) zero x e = ap (λ z. z ∷ xs) e
set_itself (y ∷ xs) (suc i) x e = ap (λ zs. y ∷ zs) (set_itself xs i x e)

-- a store after a batch was put on a shelf, or was not for want of memory
module _ (xs : List Holding) (now : Stored) (b : Batch) (i : ℕ) (old new : Holding) (same : stored_on xs ≡ now) (is : IsStore xs) (low : 1 ≤ b.agent) (high : b.agent ≤ now.agents)
    (at : i ≡ b.agent) (e : old ≡ get_or xs (i - 1) old) where
  agents : length xs ≡ now.agents
  agents = ap (λ (v : Stored). v.agents) same

  place : b.agent ≡ 1 + (i - 1)
  place = omega (arith, at, low)

  less : i - 1 < length xs
  less = omega (arith, at, low, high, agents)

  pub shelf_is_of : AreOf b.agent old
  shelf_is_of = subst (λ x. AreOf b.agent x) (sym e) (subst (λ a. AreOf a (get_or xs (i - 1) old)) (sym place) (shelf_of 1 (i - 1) xs old is.of_agents less))

  changed : set xs (i - 1) (put old b) ≡ set xs (i - 1) (put (get_or xs (i - 1) old) b)
  changed = ap (λ x. set xs (i - 1) (put x b)) e

  is_put : IsPut 1 xs (set xs (i - 1) (put (get_or xs (i - 1) old) b)) b
  is_put = put_at b 1 (i - 1) xs old is.of_agents place less

  abbrev AfterPut : List Holding → Type 0
  AfterPut ys = IsStore ys × (stored_on ys ≡ record { agents = now.agents; batches = put now.batches b })

  made : IsWellFormed b → AfterPut (set xs (i - 1) (put (get_or xs (i - 1) old) b))
  made well =
      let batches = is_put.batches ∙ ap (λ (v : Stored). put v.batches b) same in
      let count = is_put.count ∙ agents in (
        record {
          of_agents = is_put.are;
          is_stored = record {
            agents_from = let from = is.is_stored.agents_from in omega (arith, is_put.count, from);
            agents_to = let to = is.is_stored.agents_to in omega (arith, is_put.count, to);
            is_holding = subst IsHolding (sym is_put.batches) (IsHolding-put (on_shelves xs) b is.is_stored.is_holding well);
            of_agents = subst (All (λ c. c.agent ≤ length ys)) (sym is_put.batches)
                (subst (λ n. All (λ c. c.agent ≤ n) (put (on_shelves xs) b)) (sym is_put.count) (all_put (λ c. c.agent ≤ length xs) (on_shelves xs) b (omega (arith, agents, high)) is.is_stored.of_agents));
          };
        },
        ap (λ n. record { agents = n; batches = on_shelves ys }) count ∙ ap (λ h. record { agents = now.agents; batches = h }) batches,
      )
    where
      ys : List Holding
      ys = set xs (i - 1) (put (get_or xs (i - 1) old) b)

  put_made : IsWellFormed b → new ≡ put old b → AfterPut (set xs (i - 1) new)
  put_made well is_new = subst AfterPut (sym (ap (set xs (i - 1)) is_new ∙ changed)) (made well)

  put_kept : new ≡ old → set xs (i - 1) new ≡ xs
  put_kept is_old = ap (set xs (i - 1)) is_old ∙ set_itself xs (i - 1) old e

  pub is_store_after : {E : Type 0} (r : Result Bool E) → IsWellFormed b → IfOk r (λ _. new ≡ put old b) → IfErr r (λ _. new ≡ old) → IsStore (set xs (i - 1) new)
  is_store_after (Ok t) well ok err = (put_made well ok).0
  is_store_after (Err x) well ok err = subst IsStore (sym (put_kept err)) is

  pub value_after : {E : Type 0} (r : Result Bool E) → IsWellFormed b → IfOk r (λ _. new ≡ put old b)
      → IfOk r (λ _. stored_on (set xs (i - 1) new) ≡ record { agents = now.agents; batches = put now.batches b })
  value_after (Ok t) well ok = (put_made well ok).1
  value_after (Err x) well ok = tt

  pub added_there : {E : Type 0} (r : Result Bool E) → IfOk r (λ added. IsTrue added ↔ (at_seq old b.seq ≡ None)) → IfOk r (λ added. IsTrue added ↔ (held now.batches b.agent b.seq ≡ None))
  added_there r added = subst (λ o. IfOk r (λ t. IsTrue t ↔ (o ≡ None))) (sym (held_store xs now b.agent b.seq old same is low high (e ∙ ap (λ n. get_or xs (n - 1) old) at))) added

-- ---- what is shared

up_to_own : (cut : Cut) (k : ℕ) (x : Holding) → AreOf k x → up_to cut x ≡ up_to_seq (last_of cut k) x
up_to_own cut k [] of = refl
up_to_own cut k (b ∷ x) of =
    let rest = up_to_own cut k x of.1 in
    ap (λ a. cond (nat_le b.seq (last_of cut a)) (b ∷ up_to cut x) (up_to cut x)) of.0 ∙ ap (λ h. cond (nat_le b.seq (last_of cut k)) (b ∷ h) h) rest

of_kept : (last k : ℕ) (x : Holding) → AreOf k x → AreOf k (up_to_seq last x)
of_kept last k [] of = tt
of_kept last k (b ∷ x) of =
    let rest = of_kept last k x of.1 in
    cond_both (nat_le b.seq last) (b ∷ up_to_seq last x) (up_to_seq last x) (AreOf k) (λ _. (of.0, rest)) (λ _. rest)

are_push : (k : ℕ) (ys : List Holding) (y : Holding) → AreShelves k ys → AreOf (k + length ys) y → AreShelves k (ys ++ y ∷ [])
are_push k [] y are of = let here : k + 0 ≡ k = omega arith in (subst (λ a. AreOf a y) here of, tt)
are_push k (x ∷ ys) y are of = let next : k + suc (length ys) ≡ k + 1 + length ys = omega arith in (are.0, are_push (k + 1) ys y are.1 (subst (λ a. AreOf a y) next of))

-- the first shelves are shared, and what is left is as it was
pub record AreShared (cut : Cut) (xs ys : List Holding) (i : ℕ) : Type 0 where
  pub so_far : on_shelves ys ++ up_to cut (on_shelves (drop i xs)) ≡ up_to cut (on_shelves xs)
  pub are : AreShelves 1 ys
  pub count : length ys ≡ i

pub share_more : (cut : Cut) (xs ys : List Holding) (i : ℕ) (x y : Holding) → AreShelves 1 xs → i < length xs → x ≡ get_or xs i x → y ≡ up_to_seq (last_of cut (i + 1)) x → AreShared cut xs ys i → AreShared cut xs (ys ++ y ∷ []) (i + 1)
share_more cut xs ys i x y are less e shared so = record {
  so_far = ap (λ h. h ++ up_to cut (on_shelves (drop (i + 1) xs))) (flat_map-append (λ (z : Holding). z) ys (y ∷ []) ∙ ap (λ h. on_shelves ys ++ h) (append-nil y ∙ (shared ∙ sym (up_to_own cut (i + 1) x of))))
      ∙ (append_assoc (on_shelves ys) (up_to cut x) (up_to cut (on_shelves (drop (i + 1) xs)))
      ∙ (ap (λ h. on_shelves ys ++ h) (sym rest) ∙ so.so_far));
  are = are_push 1 ys y so.are (subst (λ a. AreOf a y) place (subst (AreOf (i + 1)) (sym shared) (of_kept (last_of cut (i + 1)) (i + 1) x of)));
  count = let longer = length-append ys (y ∷ []) in let count = so.count in omega (arith, longer, count);
}
  where
    of : AreOf (i + 1) x
    of = let here : 1 + i ≡ i + 1 = omega arith in subst (λ z. AreOf (i + 1) z) (sym e) (subst (λ a. AreOf a (get_or xs i x)) here (shelf_of 1 i xs x are less))

    place : i + 1 ≡ 1 + length ys
    place = let count = so.count in omega (arith, count)

    more : suc i ≡ i + 1
    more = omega arith

    rest : up_to cut (on_shelves (drop i xs)) ≡ up_to cut x ++ up_to cut (on_shelves (drop (i + 1) xs))
    rest = ap (λ zs. up_to cut (on_shelves zs)) (drop-cons xs i x less ∙ (ap (λ n. get_or xs i x ∷ drop n xs) more ∙ ap (λ z. z ∷ drop (i + 1) xs) (sym e)))
        ∙ filter-append (λ b. nat_le b.seq (last_of cut b.agent)) x (on_shelves (drop (i + 1) xs))

pub share_all : (cut : Cut) (xs ys : List Holding) (now : Stored) (i : ℕ) → stored_on xs ≡ now → IsStore xs → length xs ≤ i → i ≤ length xs → AreShared cut xs ys i → IsStore ys × (stored_on ys ≡ record { agents = now.agents; batches = up_to cut now.batches })
share_all cut xs ys now i same is low high so = (
  record {
    of_agents = so.are;
    is_stored = record {
      agents_from = let from = is.is_stored.agents_from in omega (arith, count, from);
      agents_to = let to = is.is_stored.agents_to in omega (arith, count, to);
      is_holding = subst IsHolding (sym batches) (IsHolding-up_to (on_shelves xs) cut is.is_stored.is_holding);
      of_agents = subst (All (λ b. b.agent ≤ length ys)) (sym batches)
          (subst (λ n. All (λ b. b.agent ≤ n) (up_to cut (on_shelves xs))) (sym count) (All-filter (λ b. nat_le b.seq (last_of cut b.agent)) (λ b. b.agent ≤ length xs) (on_shelves xs) is.is_stored.of_agents));
    };
  },
  ap (λ n. record { agents = n; batches = on_shelves ys }) (count ∙ ap (λ (v : Stored). v.agents) same)
      ∙ ap (λ h. record { agents = now.agents; batches = h }) (batches ∙ ap (λ (v : Stored). up_to cut v.batches) same),
)
  where
    count : length ys ≡ length xs
    count = let c = so.count in omega (arith, c, low, high)

    none_left : drop i xs ≡ []
    none_left = drop_all i xs low

    batches : on_shelves ys ≡ up_to cut (on_shelves xs)
    batches = sym (append-nil (on_shelves ys)) ∙ (ap (λ zs. on_shelves ys ++ up_to cut (on_shelves zs)) (sym none_left) ∙ so.so_far)

-- What an observer teaches a voter it could have been taught by the votes of a majority: so the voters of a group do alone what
-- they do with observers.
use Rattle.std.proofs.Common.{◌≡◌, ◌↔◌, ℕ, zero, suc, ◌+◌, ◌<◌, ◌≤◌, Bool, true, false, cond, not, ◌&&◌, List, [], ◌∷◌, ◌++◌, length, length-set}
use Rattle.std.proofs.Common.{get_or, refl, sym, ap, ◌∙◌, subst, arith, Option, Some, None, inl, inr, ok_or, All, unwrap_or, eqb-true, eq-eqb}
use Rattle.std.proofs.Common.{leb-true, filter, zip, nat_le, Ordering, Less, Equal, Greater}
use Rattle.std.specs.Prelude.{slice_get, slice_set, ◌==◌}
use Rattle.std.specs.Option.{option_map}
use Rattle.std.specs.List.{count_by, list_any, range_with_len}
use Rattle.std.specs.Map.{lookup}
use Rattle.std.specs.BTreeMap.{insert_entry}
use Rattle.std.specs.Ordering.{nat_cmp, match_ordering}
use Rattle.std.specs.Cmp.{nat_cmp_is}
use Rattle.std.proofs.lemmas.Bool.{le-leb, leb-false, both_ways}
use Rattle.std.proofs.lemmas.List.Elements.{All-nil, All-cons, All-append, filter-append}
use Rattle.std.proofs.lemmas.Map.Lookups.{exact_unsigned}
use Rattle.std.proofs.lemmas.Option.{same_Some, slice_get_within}
use Rattle.metering_model.specs.FirstFailure.{◌>>=◌}
use Rattle.metering_model.specs.Cut.{Cut}
use Rattle.metering_model.specs.Sheet.{Sheet, Issuer}
use Rattle.metering_model.specs.Ballot.{Nodes, nobody, Tally, majority, has_majority, with_node, accepting_at, with_accepted}
use Rattle.metering_model.specs.declared.Refusal.TheVariants.{NoPacket, NoNode, WorldFull}
use Rattle.metering_model.specs.World.{World, Node, Packet, Accepted, Decided, Event, Journal, Deliver, Start, Restart, Export, Keep, Revive, Reply, Delivered, Refused, voter_count, current_period, wake, with_node_at, opening_with}
use Rattle.metering_model.specs.Deliveries.{silent, learned_kept, learning, after_accepted, handled}
use Rattle.metering_model.specs.Chosen.{IsChosen, accepts}
use Rattle.metering_model.specs.Step.{Outcome, after_delivery, or_refused, step, play}
use Rattle.metering_model.proofs.PlayLaws.{play-append}
use Rattle.group_laws.specs.Observers.{is_beyond, Numbers, numbers_after, next_after, renumbered, Follows, IsFollowed}
use Rattle.group_laws.specs.Alone.{Answered, is_full, is_of_voters, unnumbered, IsLike, AreAmong, CanBeDoneAlone}
use Rattle.group_laws.proofs.Quorum.{In, count_by-cons, somewhere, accepted_was_sent}
use Rattle.group_laws.proofs.Nodes.{marks-range}
use Rattle.group_laws.proofs.Forms.{HasForms, HasForms-step, HasForms-opening, readable}
use Rattle.group_laws.proofs.StepCases.{step_kept}
use Rattle.group_laws.proofs.Told.{ChosenIn, IsTold, IsTold-steps, IsTold-opening, accepting_counted, any_sent, accepts_itself}
use Rattle.group_laws.proofs.WithoutObservers.{set_same, some_at, setting, beyond_passes, step_follows, step_alike, step_full, opening_follows}

-- ---- marks

set_twice : {A : Type 0} (xs : List A) (i : ℕ) (x y : A) → slice_set (slice_set xs i x) i y ≡ slice_set xs i y
set_twice [] i x y = refl
set_twice (z ∷ xs) zero x y = refl
set_twice (z ∷ xs) (suc i) x y = ap (λ zs. z ∷ zs) (set_twice xs i x y)

set_itself : {A : Type 0} (xs : List A) (i : ℕ) (x : A) → slice_get xs i ≡ Some x → slice_set xs i x ≡ xs
set_itself [] i x e = refl
set_itself (z ∷ xs) zero x e = ap (λ y. y ∷ xs) (sym (same_Some z x e))
set_itself (z ∷ xs) (suc i) x e = ap (λ zs. z ∷ zs) (set_itself xs i x e)

mark_stays : (set : Nodes) (i j : ℕ) → get_or set j false ≡ true → get_or (with_node i set) j false ≡ true
mark_stays [] i j e = e
mark_stays (x ∷ set) zero zero e = refl
mark_stays (x ∷ set) zero (suc j) e = e
mark_stays (x ∷ set) (suc i) zero e = e
mark_stays (x ∷ set) (suc i) (suc j) e = mark_stays set i j e

mark_here : (set : Nodes) (i : ℕ) → i < length set → get_or (with_node i set) i false ≡ true
mark_here [] i low = absurd (omega (arith, low))
mark_here (x ∷ set) zero low = refl
mark_here (x ∷ set) (suc i) low = mark_here set i (omega (arith, low))

-- a test that passes where another does passes as often, over a range
count_within : (f g : ℕ → Bool) (a m : ℕ) → ((j : ℕ) → j < a + m → f j ≡ true → g j ≡ true) → count_by f (range_with_len a m) ≤ count_by g (range_with_len a m)
count_within f g a zero h = omega arith
count_within f g a (suc m) h =
    let rest = count_within f g (a + 1) m (λ j low e. h j (omega (arith, low)) e) in
    let here = by_test (f a) (g a) (h a (omega arith)) in
    omega (arith, rest, here, count_by-cons f a (range_with_len (a + 1) m), count_by-cons g a (range_with_len (a + 1) m))
  where
    by_test : (x y : Bool) → (x ≡ true → y ≡ true) → cond x 1 0 ≤ cond y 1 0
    by_test true true h = omega arith
    by_test true false h = absurd (both_ways false refl (h refl))
    by_test false true h = omega arith
    by_test false false h = omega arith

lookup_put : (t : Tally) (k : ℕ) (v : Nodes) → lookup (λ x. x == k) (insert_entry nat_cmp t k v) ≡ Some v
lookup_put [] k v = ap (λ b. cond b (Some v) None) (eq-eqb k k refl)
lookup_put (e ∷ t) k v = by_order (nat_cmp k e.0) refl (lookup_put t k v)
  where
    by_key : (b : Bool) → (e.0 == k) ≡ b → (e.0 ≡ k → ⊥) → lookup (λ x. x == k) (insert_entry nat_cmp t k v) ≡ Some v → cond b (Some e.1) (lookup (λ x. x == k) (insert_entry nat_cmp t k v)) ≡ Some v
    by_key true at other rest = absurd (other (eqb-true e.0 k at))
    by_key false at other rest = rest

    greater : nat_cmp k e.0 ≡ Greater → e.0 ≡ k → ⊥
    greater is same = let equal : Equal ≡ nat_cmp k e.0 = nat_cmp_is k e.0 Equal (sym same) in absurd (cc (equal, is))

    by_order : (o : Ordering) → nat_cmp k e.0 ≡ o → lookup (λ x. x == k) (insert_entry nat_cmp t k v) ≡ Some v → lookup (λ x. x == k) (match_ordering o ((k, v) ∷ e ∷ t) ((e.0, v) ∷ t) (e ∷ insert_entry nat_cmp t k v)) ≡ Some v
    by_order Less is rest = ap (λ b. cond b (Some v) (lookup (λ x. x == k) (e ∷ t))) (eq-eqb k k refl)
    by_order Equal is rest = ap (λ b. cond b (Some v) (lookup (λ x. x == k) t)) (eq-eqb e.0 k (sym (exact_unsigned k e.0 is)))
    by_order Greater is rest = by_key (e.0 == k) refl (greater is) rest

accepting_put : (N from b : ℕ) (t : Tally) → accepting_at N b (with_accepted N from b t) ≡ with_node from (accepting_at N b t)
accepting_put N from b t = ap (λ o. unwrap_or o (nobody N)) (lookup_put t b (with_node from (accepting_at N b t)))

-- ---- some events, and what they are answered

-- They lead from one world to another, none is at an observer, and they are answered as these were.
record Leads (N : ℕ) (xs : List Answered) (v w : World) : Type 0 where
  pub others : List Event
  pub at_voters : All (λ e. is_beyond N e ≡ false) others
  pub leads : (play v others).1 ≡ w
  pub answers : AreAmong xs (zip others (play v others).0)

-- an event, and then these
with_event : (N : ℕ) (xs ys : List Answered) (v u w : World) (e : Event) (r : Reply) → is_beyond N e ≡ false → step v e ≡ (r, u)
    → ((zs : List Answered) → AreAmong xs zs → AreAmong ys ((e, r) ∷ zs)) → Leads N xs u w → Leads N ys v w
with_event N xs ys v u w e r low is more h = record {
  others = e ∷ h.others;
  at_voters = All-cons (λ e. is_beyond N e ≡ false) e h.others low h.at_voters;
  leads = ap (λ (o : Outcome). (play o.1 h.others).1) is ∙ h.leads;
  answers = subst (λ (o : Outcome). AreAmong ys ((e, o.0) ∷ zip h.others (play o.1 h.others).0)) (sym is) (more (zip h.others (play u h.others).0) h.answers);
}

no_event : (N : ℕ) (w : World) → Leads N [] w w
no_event N w = record { others = []; at_voters = All-nil (λ e. is_beyond N e ≡ false); leads = refl; answers = tt }

-- one event that is answered so, and no other
one_event : (N : ℕ) (x : Answered) (v u : World) (e : Event) (r : Reply) → is_beyond N e ≡ false → step v e ≡ (r, u) → IsLike x (e, r) → Leads N (x ∷ []) v u
one_event N x v u e r low is like = with_event N [] (x ∷ []) v u u e r low is (λ zs among. inl (like, among)) (no_event N u)

-- a delivery that is answered with nothing, and then these
quiet_event : (N : ℕ) (x : Answered) (v u w : World) (e : Event) → is_beyond N e ≡ false → step v e ≡ (Delivered None None, u) → Leads N (x ∷ []) u w → Leads N (x ∷ []) v w
quiet_event N x v u w e low is h = with_event N (x ∷ []) (x ∷ []) v u w e (Delivered None None) low is (λ zs among. inr (refl, among)) h

among_append : (xs ys more others : List Answered) → AreAmong xs ys → AreAmong more others → AreAmong (xs ++ more) (ys ++ others)
among_append [] [] more others h k = k
among_append [] (y ∷ ys) [] others h k = (h.0, among_append [] ys [] others h.1 k)
among_append [] (y ∷ ys) (m ∷ more) others h k = inr (h.0, among_append [] ys (m ∷ more) others h.1 k)
among_append (x ∷ xs) [] more others h k = absurd h
among_append (x ∷ xs) (y ∷ ys) more others (inl h) k = inl (h.0, among_append xs ys more others h.1 k)
among_append (x ∷ xs) (y ∷ ys) more others (inr h) k = inr (h.0, among_append (x ∷ xs) ys more others h.1 k)

answered_append : (w : World) (es more : List Event) → zip (es ++ more) (play w (es ++ more)).0 ≡ zip es (play w es).0 ++ zip more (play (play w es).1 more).0
answered_append w [] more = refl
answered_append w (e ∷ es) more = ap (λ zs. (e, (step w e).0) ∷ zs) (answered_append (step w e).1 es more)

delivered : (v : World) (k i : ℕ) (q : Packet) (n : Node) → slice_get v.packets k ≡ Some q → slice_get v.nodes i ≡ Some n → step v (Deliver k i) ≡ or_refused v (after_delivery v i (handled v i n q))
delivered v k i q n is found =
    ap (λ (o : Option Packet). or_refused v (ok_or o NoPacket >>= λ q. ok_or (slice_get v.nodes i) NoNode >>= λ n. after_delivery v i (handled v i n q))) is
    ∙ ap (λ (o : Option Node). or_refused v (ok_or o NoNode >>= λ n. after_delivery v i (handled v i n q))) found

no_node : (v : World) (k i : ℕ) (q : Packet) → slice_get v.packets k ≡ Some q → slice_get v.nodes i ≡ None → step v (Deliver k i) ≡ (Refused NoNode, v)
no_node v k i q is found =
    ap (λ (o : Option Packet). or_refused v (ok_or o NoPacket >>= λ q. ok_or (slice_get v.nodes i) NoNode >>= λ n. after_delivery v i (handled v i n q))) is
    ∙ ap (λ (o : Option Node). or_refused v (ok_or o NoNode >>= λ n. after_delivery v i (handled v i n q))) found

-- ---- the votes of a majority, delivered to a voter that counts

module _ (N : ℕ) (u : World) (i : ℕ) (n : Node) (votes : voter_count u ≡ N) (low : i < N) (found : slice_get u.nodes i ≡ Some n) (b : ℕ) (c : Cut)
    (many : majority N ≤ count_by (λ j. list_any (accepts j (current_period n) b c) u.packets) (range_with_len 0 N)) where
  abbrev is_voting : ℕ → Bool
  is_voting j = list_any (accepts j (current_period n) b c) u.packets

  sent : (j : ℕ) → is_voting j ≡ true → In u.packets (Accepted j (current_period n) b c)
  sent j e = accepted_was_sent u.packets j (current_period n) b c e

  -- the world where the voter has counted these
  abbrev at : Tally → World
  at t = with_node_at i (record n { tally = t }) u

  abbrev taught : World
  taught = with_node_at i (wake (learned_kept c n.kept)) u

  not_beyond : nat_le N i ≡ false
  not_beyond = by_test (nat_le N i) refl
    where
      by_test : (t : Bool) → nat_le N i ≡ t → t ≡ false
      by_test false e = refl
      by_test true e = absurd (let high = leb-true _ _ e in omega (arith, high, low))

  -- one vote
  counted : (t : Tally) (j k : ℕ) → slice_get u.packets k ≡ Some (Accepted j (current_period n) b c)
      → step (at t) (Deliver k i) ≡ cond (has_majority N (accepting_at N b (with_accepted N j b t))) (Delivered None (Some (current_period n)), taught) (Delivered None None, at (with_accepted N j b t))
  counted t j k is =
      delivered (at t) k i (Accepted j (current_period n) b c) (record n { tally = t }) is (set_same u.nodes i (record n { tally = t }) ∙ ap (option_map (λ _. record n { tally = t })) found)
      ∙ ap (λ x. or_refused (at t)
      (after_delivery (at t) i (cond x
      (cond (has_majority (voter_count u) (accepting_at (voter_count u) b (with_accepted (voter_count u) j b t))) (learning c (record n { tally = t }))
      (silent (record n { tally = with_accepted (voter_count u) j b t }))) (silent (record n { tally = t })))))
      (eq-eqb (current_period n) (current_period n) refl)
      ∙ ap (λ V. or_refused (at t) (after_delivery (at t) i (cond (has_majority V (accepting_at V b (with_accepted V j b t))) (learning c (record n { tally = t })) (silent (record n { tally = with_accepted V j b t }))))) votes
      ∙ by_many (has_majority N (accepting_at N b (with_accepted N j b t)))
    where
      by_many : (m : Bool) → or_refused (at t) (after_delivery (at t) i (cond m (learning c (record n { tally = t })) (silent (record n { tally = with_accepted N j b t }))))
          ≡ cond m (Delivered None (Some (current_period n)), taught) (Delivered None None, at (with_accepted N j b t))
      by_many true = ap (λ (nodes : List Node). (Delivered None (Some (current_period n)), record u { nodes = nodes })) (set_twice u.nodes i (record n { tally = t }) (wake (learned_kept c n.kept)))
      by_many false = ap (λ (nodes : List Node). (Delivered None None, record u { nodes = nodes })) (set_twice u.nodes i (record n { tally = t }) (record n { tally = with_accepted N j b t }))

  module _ (packet : ℕ) where
    abbrev lesson : Answered
    lesson = (Deliver packet i, Delivered None (Some (current_period n)))

    -- a vote that makes a majority, or after which these teach the voter
    vote : (t : Tally) (j : ℕ) → is_voting j ≡ true → (has_majority N (accepting_at N b (with_accepted N j b t)) ≡ false → Leads N (lesson ∷ []) (at (with_accepted N j b t)) taught) → Leads N (lesson ∷ []) (at t) taught
    vote t j voting later = by_many (has_majority N (accepting_at N b (with_accepted N j b t))) refl
      where
        here : In u.packets (Accepted j (current_period n) b c)
        here = sent j voting

        by_many : (m : Bool) → has_majority N (accepting_at N b (with_accepted N j b t)) ≡ m → Leads N (lesson ∷ []) (at t) taught
        by_many true is = one_event N lesson (at t) taught (Deliver here.0 i) (Delivered None (Some (current_period n))) not_beyond
            (counted t j here.0 here.1 ∙ ap (λ m. cond m (Delivered None (Some (current_period n)), taught) (Delivered None None, at (with_accepted N j b t))) is) (refl, refl)
        by_many false is = quiet_event N lesson (at t) (at (with_accepted N j b t)) taught (Deliver here.0 i) not_beyond
            (counted t j here.0 here.1 ∙ ap (λ m. cond m (Delivered None (Some (current_period n)), taught) (Delivered None None, at (with_accepted N j b t))) is) (later is)

    -- where each vote is marked there is a majority
    enough : (set : Nodes) → length set ≡ N → ((j : ℕ) → j < N → is_voting j ≡ true → get_or set j false ≡ true) → has_majority N set ≡ true
    enough set size marked =
        let marks = marks-range set ∙ ap (λ n. count_by (λ j. get_or set j false) (range_with_len 0 n)) size in
        let more = count_within is_voting (λ j. get_or set j false) 0 N (λ j low e. marked j (omega (arith, low)) e) in
        le-leb _ _ (omega (arith, many, marks, more))

    size_put : (t : Tally) (j : ℕ) → length (accepting_at N b t) ≡ N → length (accepting_at N b (with_accepted N j b t)) ≡ N
    size_put t j size = ap (λ (s : Nodes). length s) (accepting_put N j b t) ∙ length-set (accepting_at N b t) j true ∙ size

    stays : (t : Tally) (j k : ℕ) → get_or (accepting_at N b t) k false ≡ true → get_or (accepting_at N b (with_accepted N j b t)) k false ≡ true
    stays t j k e = ap (λ (s : Nodes). get_or s k false) (accepting_put N j b t) ∙ mark_stays (accepting_at N b t) j k e

    -- the votes from this node on, where those before it are counted
    lessons : (m a : ℕ) (t : Tally) → a + m ≡ N → length (accepting_at N b t) ≡ N → ((j : ℕ) → j < a → is_voting j ≡ true → get_or (accepting_at N b t) j false ≡ true) → Leads N (lesson ∷ []) (at t) taught
    lessons zero a t all size marked =
        let one = somewhere is_voting (range_with_len 0 N) (omega (arith, many)) in
        vote t one.0 one.1 (λ none.
        let is = enough (accepting_at N b (with_accepted N one.0 b t)) (size_put t one.0 size) (λ j low e. stays t one.0 j (marked j (omega (arith, low, all)) e)) in
        absurd (cc (none, is)))
    lessons (suc m) a t all size marked = by_vote (is_voting a) refl (λ s size marked. lessons m (a + 1) s (omega (arith, all)) size marked)
      where
        next : (s : Tally) (j : ℕ) → j < a + 1 → ((k : ℕ) → k < a → is_voting k ≡ true → get_or (accepting_at N b s) k false ≡ true) → (is_voting a ≡ true → get_or (accepting_at N b s) a false ≡ true)
            → is_voting j ≡ true → get_or (accepting_at N b s) j false ≡ true
        next s j low before here e = by_place (j == a) refl
          where
            by_place : (x : Bool) → (j == a) ≡ x → get_or (accepting_at N b s) j false ≡ true
            by_place true same = let at : j ≡ a = eqb-true _ _ same in subst (λ k. get_or (accepting_at N b s) k false ≡ true) (sym at) (here (subst (λ k. is_voting k ≡ true) at e))
            by_place false same =
                let differs : j ≡ a → ⊥ = λ is. let t = eq-eqb j a is in absurd (cc (t, same)) in
                before j (omega (arith, low, differs)) e

        by_vote : (x : Bool) → is_voting a ≡ x
            → ((s : Tally) → length (accepting_at N b s) ≡ N → ((j : ℕ) → j < a + 1 → is_voting j ≡ true → get_or (accepting_at N b s) j false ≡ true) → Leads N (lesson ∷ []) (at s) taught)
            → Leads N (lesson ∷ []) (at t) taught
        by_vote false e later = later t size (λ j low. next t j low marked (λ is. absurd (cc (is, e))))
        by_vote true e later = vote t a e (λ none. later (with_accepted N a b t) (size_put t a size)
            (λ j low. next (with_accepted N a b t) j low (λ k less is. stays t a k (marked k less is))
            (λ is. ap (λ (s : Nodes). get_or s a false) (accepting_put N a b t) ∙ mark_here (accepting_at N b t) a (omega (arith, all, size)))))

-- ---- what both have sent

module _ (N : ℕ) (numbers : Numbers) (next : ℕ) (w u : World) (h : Follows N numbers next w u) where
  -- no vote is left out
  vote_in_other : (j p b : ℕ) (c : Cut) → In w.packets (Accepted j p b c) → In u.packets (Accepted j p b c)
  vote_in_other j p b c was = by_number (numbered.0) numbered.1
    where
      numbered : (o : Option ℕ) × (slice_get numbers was.0 ≡ Some o)
      numbered = let low = slice_get_within w.packets was.0 (Accepted j p b c) was.1 in let size = h.each_packet in some_at numbers was.0 (omega (arith, low, size))

      by_number : (o : Option ℕ) → slice_get numbers was.0 ≡ Some o → In u.packets (Accepted j p b c)
      by_number (Some m) e = (m, h.packets was.0 m e ∙ was.1)
      by_number None e = let cut = h.left_out was.0 e in absurd (let same : Accepted j p b c ≡ Decided cut.0 cut.1 = same_Some _ _ (sym was.1 ∙ cut.2) in cc)

  vote_in_whole : (j p b : ℕ) (c : Cut) → In u.packets (Accepted j p b c) → In w.packets (Accepted j p b c)
  vote_in_whole j p b c was =
      let numbered = h.no_other was.0 (slice_get_within u.packets was.0 (Accepted j p b c) was.1) in
      (numbered.0, sym (h.packets numbered.0 was.0 numbered.1) ∙ was.1)

  any_vote : (P Q : List Packet) → ((j p b : ℕ) (c : Cut) → In P (Accepted j p b c) → In Q (Accepted j p b c)) → (p b : ℕ) (c : Cut)
      → count_by (λ j. list_any (accepts j p b c) P) (range_with_len 0 N) ≤ count_by (λ j. list_any (accepts j p b c) Q) (range_with_len 0 N)
  any_vote P Q more p b c = count_within _ _ 0 N (λ j low e.
      let was = more j p b c (accepted_was_sent P j p b c e) in
      any_sent (accepts j p b c) Q (Accepted j p b c) was.0 was.1 (accepts_itself j p b c))

  chosen_alike : (p : ℕ) (c : Cut) → IsChosen w p c ↔ IsChosen u p c
  chosen_alike p c = (
    (λ is. record {
      ballot = is.ballot;
      by_majority = subst (λ V. majority V ≤ count_by (λ j. list_any (accepts j p is.ballot c) u.packets) (range_with_len 0 V)) (sym h.other_votes)
          (let more = any_vote w.packets u.packets vote_in_other p is.ballot c in
          let many = subst (λ V. majority V ≤ count_by (λ j. list_any (accepts j p is.ballot c) w.packets) (range_with_len 0 V)) h.votes is.by_majority in
          omega (arith, more, many));
    }),
    (λ is. record {
      ballot = is.ballot;
      by_majority = subst (λ V. majority V ≤ count_by (λ j. list_any (accepts j p is.ballot c) w.packets) (range_with_len 0 V)) (sym h.votes)
          (let more = any_vote u.packets w.packets vote_in_whole p is.ballot c in
          let many = subst (λ V. majority V ≤ count_by (λ j. list_any (accepts j p is.ballot c) u.packets) (range_with_len 0 V)) h.other_votes is.by_majority in
          omega (arith, more, many));
    }),
  )

-- ---- one event

-- the world that follows, and how the voters come there
record Done (N : ℕ) (w u : World) (e : Event) : Type 0 where
  pub numbers : Numbers
  pub next : ℕ
  pub reached : World
  pub follows : Follows N numbers next (step w e).1 reached
  pub leads : Leads N (filter (is_of_voters N) ((e, (step w e).0) ∷ [])) u reached

is_left : (N : ℕ) (e : Event) (r : Reply) → is_beyond N e ≡ false → is_full r ≡ false → filter (is_of_voters N) ((e, r) ∷ []) ≡ (e, r) ∷ []
is_left N e r low fits = ap (λ b. cond (not b && not (is_full r)) ((e, r) ∷ []) []) low ∙ ap (λ b. cond (not false && not b) ((e, r) ∷ []) []) fits

is_beyond_left : (N : ℕ) (e : Event) (r : Reply) → is_beyond N e ≡ true → filter (is_of_voters N) ((e, r) ∷ []) ≡ []
is_beyond_left N e r beyond = ap (λ b. cond (not b && not (is_full r)) ((e, r) ∷ []) []) beyond

is_full_left : (N : ℕ) (e : Event) (r : Reply) → is_beyond N e ≡ false → is_full r ≡ true → filter (is_of_voters N) ((e, r) ∷ []) ≡ []
is_full_left N e r low full = ap (λ b. cond (not b && not (is_full r)) ((e, r) ∷ []) []) low ∙ ap (λ b. cond (not false && not b) ((e, r) ∷ []) []) full

full_is : (r : Reply) → is_full r ≡ true → r ≡ Refused WorldFull
full_is (Refused WorldFull) e = refl
full_is r e = absurd (cc)

module _ (N : ℕ) (numbers : Numbers) (next : ℕ) (w u : World) (h : Follows N numbers next w u) (told : IsTold N w) where
  -- the same event, with the packet's other number
  same_event : (e f : Event) → is_beyond N e ≡ false → is_beyond N f ≡ false → renumbered numbers next e ≡ Some f
      → ((r s : Reply) → unnumbered r ≡ unnumbered s → IsLike (e, r) (f, s)) → Done N w u e
  same_event e f low low' is like = by_room (is_full (step w e).0) refl
    where
      by_room : (b : Bool) → is_full (step w e).0 ≡ b → Done N w u e
      by_room true full = record {
        numbers = numbers;
        next = next;
        reached = u;
        follows = subst (λ x. Follows N numbers next x u) (sym (step_full N numbers next w u e f h low is (full_is (step w e).0 full))) h;
        leads = subst (λ xs. Leads N xs u u) (sym (is_full_left N e (step w e).0 low full)) (no_event N u);
      }
      by_room false fits =
          let fit : (step w e).0 ≡ Refused WorldFull → ⊥ = λ same. let full = ap is_full same in absurd (cc (full, fits)) in
          record {
            numbers = numbers_after (Some next) (step w e).0 numbers;
            next = next_after (step w e).0 next;
            reached = (step u f).1;
            follows = step_follows N numbers next w u e f h low is fit;
            leads = subst (λ xs. Leads N xs u (step u f).1) (sym (is_left N e (step w e).0 low fits))
                (one_event N (e, (step w e).0) u (step u f).1 f (step u f).0 low' refl (like (step w e).0 (step u f).0 (step_alike N numbers next w u e f h low is fit)));
          }

  -- what an observer tells a voter
  lesson_done : (k i p : ℕ) (c : Cut) → nat_le N i ≡ false → slice_get w.packets k ≡ Some (Decided p c) → Done N w u (Deliver k i)
  lesson_done k i p c low is = by_node (slice_get w.nodes i) refl
    where
      within : i < N
      within = let less = leb-false _ _ low in omega (arith, less)

      chosen : ChosenIn w.packets N p c
      chosen = told.decided p c (k, is)

      many : majority N ≤ count_by (λ j. list_any (accepts j p chosen.0 c) u.packets) (range_with_len 0 N)
      many = let more = any_vote N numbers next w u h w.packets u.packets (vote_in_other N numbers next w u h) p chosen.0 c in omega (arith, more, chosen.1)

      -- some vote was for it
      voted : (j : ℕ) × In u.packets (Accepted j p chosen.0 c)
      voted = let one = somewhere (λ j. list_any (accepts j p chosen.0 c) u.packets) (range_with_len 0 N) (omega (arith, many)) in (one.0, accepted_was_sent u.packets one.0 p chosen.0 c one.1)

      done : (r : Reply) (x y : World) → is_full r ≡ false → step w (Deliver k i) ≡ (r, x) → Follows N numbers next x y → Leads N ((Deliver k i, r) ∷ []) u y → Done N w u (Deliver k i)
      done r x y fits answer follows leads = record {
        numbers = numbers;
        next = next;
        reached = y;
        follows = subst (λ (o : Outcome). Follows N numbers next o.1 y) (sym answer) follows;
        leads = subst (λ (o : Outcome). Leads N (filter (is_of_voters N) ((Deliver k i, o.0) ∷ [])) u y) (sym answer) (subst (λ xs. Leads N xs u y) (sym (is_left N (Deliver k i) r low fits)) leads);
      }

      by_node : (o : Option Node) → slice_get w.nodes i ≡ o → Done N w u (Deliver k i)
      by_node None found =
          done (Refused NoNode) w u refl (no_node w k i (Decided p c) is found) h
          (one_event N (Deliver k i, Refused NoNode) u u (Deliver voted.1.0 i) (Refused NoNode) low (no_node u voted.1.0 i (Accepted voted.0 p chosen.0 c) voted.1.1 (h.nodes i within ∙ found)) (refl, refl))
      by_node (Some n) found = by_period (p == current_period n) refl
        where
          found' : slice_get u.nodes i ≡ Some n
          found' = h.nodes i within ∙ found

          by_period : (b : Bool) → (p == current_period n) ≡ b → Done N w u (Deliver k i)
          by_period false other =
              done (Delivered None None) (with_node_at i n w) (with_node_at i n u) refl
              (delivered w k i (Decided p c) n is found ∙ ap (λ b. or_refused w (after_delivery w i (cond b (learning c n) (silent n)))) other)
              (setting N numbers next w u h i n)
              (one_event N (Deliver k i, Delivered None None) u (with_node_at i n u) (Deliver voted.1.0 i) (Delivered None None) low
              (delivered u voted.1.0 i (Accepted voted.0 p chosen.0 c) n voted.1.1 found' ∙ ap (λ b. or_refused u (after_delivery u i (cond b (after_accepted u n chosen.0 c (with_accepted (voter_count u) voted.0 chosen.0 n.tally)) (silent n)))) other) (refl, refl))
          by_period true same =
              let now : p ≡ current_period n = eqb-true _ _ same in
              let here : majority N ≤ count_by (λ j. list_any (accepts j (current_period n) chosen.0 c) u.packets) (range_with_len 0 N) = subst (λ q. majority N ≤ count_by (λ j. list_any (accepts j q chosen.0 c) u.packets) (range_with_len 0 N)) now many in
              let size = (accepting_counted w.packets N (current_period n) chosen.0 n.kept.learned n.tally (told.nodes i n found)).size in
              let itself : with_node_at i n u ≡ u = ap (λ (nodes : List Node). record u { nodes = nodes }) (set_itself u.nodes i n found') in
              done (Delivered None (Some (current_period n))) (with_node_at i (wake (learned_kept c n.kept)) w) (with_node_at i (wake (learned_kept c n.kept)) u) refl
              (delivered w k i (Decided p c) n is found ∙ ap (λ b. or_refused w (after_delivery w i (cond b (learning c n) (silent n)))) same)
              (setting N numbers next w u h i (wake (learned_kept c n.kept)))
              (subst (λ x. Leads N ((Deliver k i, Delivered None (Some (current_period n))) ∷ []) x (with_node_at i (wake (learned_kept c n.kept)) u)) itself
              (lessons N u i n h.other_votes within found' chosen.0 c here k N 0 n.tally (omega arith) size (λ j less e. absurd (omega (arith, less)))))

  at_voter : (e : Event) → is_beyond N e ≡ false → Done N w u e
  at_voter (Journal offer) low = same_event (Journal offer) (Journal offer) low low refl (λ r s e. (refl, e))
  at_voter (Deliver k i) low = by_number (slice_get numbers k) refl
    where
      known : (j : ℕ) → unwrap_or (slice_get numbers k) (Some next) ≡ Some j → Done N w u (Deliver k i)
      known j is = same_event (Deliver k i) (Deliver j i) low low (ap (option_map (λ j. Deliver j i)) is) (λ r s e. (refl, e))

      by_number : (o : Option (Option ℕ)) → slice_get numbers k ≡ o → Done N w u (Deliver k i)
      by_number None e = known next (ap (λ o. unwrap_or o (Some next)) e)
      by_number (Some (Some j)) e = known j (ap (λ o. unwrap_or o (Some next)) e)
      by_number (Some None) e = let cut = h.left_out k e in lesson_done k i cut.0 cut.1 low cut.2
  at_voter (Start i) low = same_event (Start i) (Start i) low low refl (λ r s e. (refl, e))
  at_voter (Restart i) low = same_event (Restart i) (Restart i) low low refl (λ r s e. (refl, e))
  at_voter (Export i p) low = same_event (Export i p) (Export i p) low low refl (λ r s e. (refl, e))
  at_voter (Keep i) low = same_event (Keep i) (Keep i) low low refl (λ r s e. (refl, e))
  at_voter (Revive i offer) low = same_event (Revive i offer) (Revive i offer) low low refl (λ r s e. (refl, e))

  one_done : (e : Event) → Done N w u e
  one_done e = by_place (is_beyond N e) refl
    where
      by_place : (b : Bool) → is_beyond N e ≡ b → Done N w u e
      by_place true beyond = record {
        numbers = numbers_after None (step w e).0 numbers;
        next = next;
        reached = u;
        follows = beyond_passes N numbers next w u h e beyond;
        leads = subst (λ xs. Leads N xs u u) (sym (is_beyond_left N e (step w e).0 beyond)) (no_event N u);
      }
      by_place false low = at_voter e low

-- ---- a run

run_done : (N : ℕ) (es : List Event) (numbers : Numbers) (next : ℕ) (w u : World) → Follows N numbers next w u → HasForms w → IsTold N w → CanBeDoneAlone N es w u
run_done N [] numbers next w u h forms told = record {
  others = [];
  at_voters = All-nil (λ e. is_beyond N e ≡ false);
  follows = (numbers, next, h);
  chosen = chosen_alike N numbers next w u h;
  answers = tt;
}
run_done N (e ∷ es) numbers next w u h forms told =
    let first = one_done N numbers next w u h told e in
    joined first (run_done N es first.numbers first.next (step w e).1 first.reached first.follows (HasForms-step w forms e) (step_kept (IsTold N) (IsTold-steps N) w (readable w forms) told e))
  where
    joined : (d : Done N w u e) → CanBeDoneAlone N es (step w e).1 d.reached → CanBeDoneAlone N (e ∷ es) w u
    joined d rest =
        let more : (play u (d.leads.others ++ rest.others)).1 ≡ (play d.reached rest.others).1 = play-append u d.leads.others rest.others ∙ ap (λ x. (play x rest.others).1) d.leads.leads in
        let told : zip (d.leads.others ++ rest.others) (play u (d.leads.others ++ rest.others)).0 ≡ zip d.leads.others (play u d.leads.others).0 ++ zip rest.others (play d.reached rest.others).0
        = answered_append u d.leads.others rest.others ∙ ap (λ x. zip d.leads.others (play u d.leads.others).0 ++ zip rest.others (play x rest.others).0) d.leads.leads in
        record {
          others = d.leads.others ++ rest.others;
          at_voters = All-append (λ e. is_beyond N e ≡ false) d.leads.others rest.others d.leads.at_voters rest.at_voters;
          follows = subst (IsFollowed N (play (step w e).1 es).1) (sym more) rest.follows;
          chosen = λ p c. subst (λ x. IsChosen (play (step w e).1 es).1 p c ↔ IsChosen x p c) (sym more) (rest.chosen p c);
          answers = subst (λ xs. AreAmong xs (zip (d.leads.others ++ rest.others) (play u (d.leads.others ++ rest.others)).0)) (sym (filter-append (is_of_voters N) ((e, (step w e).0) ∷ []) (zip es (play (step w e).1 es).0)))
              (subst (AreAmong (filter (is_of_voters N) ((e, (step w e).0) ∷ []) ++ filter (is_of_voters N) (zip es (play (step w e).1 es).0))) (sym told)
              (among_append _ _ _ _ d.leads.answers rest.answers));
        }

-- what the voters of a group do they can do alone
pub can_be_done_alone : (room voters observers agents : ℕ) (sheet : Sheet) (issuer : Issuer) (events : List Event)
    → CanBeDoneAlone voters events (opening_with room voters observers agents sheet issuer) (opening_with room voters 0 agents sheet issuer)
can_be_done_alone room voters observers agents sheet issuer events =
    run_done voters events [] 0 (opening_with room voters observers agents sheet issuer) (opening_with room voters 0 agents sheet issuer) (opening_follows room voters observers agents sheet issuer)
    (HasForms-opening room voters observers agents sheet issuer) (IsTold-opening room voters observers agents sheet issuer)

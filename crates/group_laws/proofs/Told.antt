-- What nodes learn, and what they tell of it, was chosen.
use Rattle.std.proofs.Common.{◌≡◌, ℕ, zero, suc, ◌+◌, ◌≤◌, Bool, true, false, ◌&&◌, ◌||◌, not, cond, List, [], ◌∷◌, ◌++◌, length, get_or, refl, sym, ap, subst, ◌∙◌, arith, Option, Some, None, ◌⊎◌, inl, inr, length-set, unwrap_or, Ordering, Less, Equal, Greater}
use Rattle.std.specs.Prelude.{slice_get, ◌==◌}
use Rattle.std.specs.List.{count_by, list_any, range_with_len}
use Rattle.std.specs.Map.{lookup}
use Rattle.std.specs.BTreeMap.{insert_entry}
use Rattle.std.specs.Ordering.{nat_cmp, match_ordering}
use Rattle.std.proofs.lemmas.Bool.{and_from, eqb-true, eq-eqb, leb-true, both_ways, or_cases}
use Rattle.std.proofs.lemmas.List.Sums.{sum_by-le-sum_by}
use Rattle.std.proofs.lemmas.Map.Lookups.{exact_unsigned}
use Rattle.std.proofs.lemmas.Option.{same_Some, none-some}
use Rattle.metering_model.specs.Cut.{Cut}
use Rattle.metering_model.specs.BatchReading.{is_same}
use Rattle.metering_model.specs.Sheet.{Sheet, Issuer}
use Rattle.metering_model.specs.Chosen.{accepts}
use Rattle.metering_model.specs.Ballot.{Vote, Attempt, Nodes, nobody, Tally, majority, has_majority, with_node, accepting_at, with_accepted, with_promise}
use Rattle.metering_model.specs.World.{World, Node, Packet, CarriesBatch, Prepare, Promise, Accept, Accepted, Decided, voter_count, votes, current_period, wake, new_kept, opening_with}
use Rattle.metering_model.specs.Deliveries.{Handled, silent, sending, learning, on_prepare, on_promise, on_accept, unless_learned, if_votes, after_promise, after_accepted, handled}
use Rattle.group_laws.proofs.Quorum.{In, IsSafe, accepting_in}
use Rattle.group_laws.proofs.Kept.{sent_before, sent_split}
use Rattle.group_laws.proofs.Nodes.{one_more, nobody_here, length-nobody, marks-range}
use Rattle.group_laws.proofs.StepCases.{after, started, start_packet, IsKeptBySteps}
use Rattle.group_laws.proofs.Steps.{IsKept, IsKept-steps, IsKept-opening, get-slice_set, get-replicate, none_sent}

-- ---- what is chosen stays chosen

abbrev pub ChosenIn : List Packet → ℕ → ℕ → Cut → Type 0
ChosenIn P N p c = (b : ℕ) × (majority N ≤ accepting_in P N p b c)

-- a test that passes where another does passes as often
pub count_weaker : (f g : ℕ → Bool) (xs : List ℕ) → ((x : ℕ) → f x ≡ true → g x ≡ true) → count_by f xs ≤ count_by g xs
count_weaker f g xs h = sum_by-le-sum_by (λ x. cond (f x) 1 0) (λ x. cond (g x) 1 0) xs (λ x. by_test (f x) (g x) (h x))
  where
    by_test : (a b : Bool) → (a ≡ true → b ≡ true) → cond a 1 0 ≤ cond b 1 0
    by_test true true h = omega arith
    by_test true false h = absurd (both_ways false refl (h refl))
    by_test false true h = omega arith
    by_test false false h = omega arith

any_before : (test : Packet → Bool) (P : List Packet) (q : Packet) → list_any test P ≡ true → list_any test (P ++ q ∷ []) ≡ true
any_before test [] q h = absurd (both_ways false refl h)
any_before test (x ∷ P) q h = by_test (test x) (or_cases (test x) (list_any test P) h) (any_before test P q)
  where
    by_test : (b : Bool) → (b ≡ true) ⊎ (list_any test P ≡ true) → (list_any test P ≡ true → list_any test (P ++ q ∷ []) ≡ true) → (b || list_any test (P ++ q ∷ [])) ≡ true
    by_test true e rest = refl
    by_test false (inl e) rest = absurd (both_ways false refl e)
    by_test false (inr e) rest = rest e

pub ChosenIn-more : (P : List Packet) (q : Packet) (N p : ℕ) (c : Cut) → ChosenIn P N p c → ChosenIn (P ++ q ∷ []) N p c
ChosenIn-more P q N p c h =
    let more = count_weaker (λ i. list_any (accepts i p h.0 c) P) (λ i. list_any (accepts i p h.0 c) (P ++ q ∷ [])) (range_with_len 0 N) (λ i e. any_before (accepts i p h.0 c) P q e) in
    (h.0, omega (arith, more, h.1))

-- what a set of nodes and a cut make chosen
pub same_itself : (c : Cut) → is_same c c ≡ true
same_itself [] = refl
same_itself (x ∷ c) = and_from (x == x) (is_same c c) (eq-eqb x x refl) (same_itself c)

pub accepts_itself : (i p b : ℕ) (c : Cut) → accepts i p b c (Accepted i p b c) ≡ true
accepts_itself i p b c =
    and_from ((i == i) && (p == p) && (b == b)) (is_same c c) (and_from ((i == i) && (p == p)) (b == b) (and_from (i == i) (p == p) (eq-eqb i i refl) (eq-eqb p p refl)) (eq-eqb b b refl)) (same_itself c)

pub any_sent : (test : Packet → Bool) (P : List Packet) (x : Packet) (k : ℕ) → slice_get P k ≡ Some x → test x ≡ true → list_any test P ≡ true
any_sent test [] x k e h = absurd (none-some x e)
any_sent test (y ∷ P) x zero e h = by_test (test y) (ap test (same_Some y x e) ∙ h)
  where
    by_test : (b : Bool) → b ≡ true → (b || list_any test P) ≡ true
    by_test true e = refl
    by_test false e = absurd (both_ways false refl e)
any_sent test (y ∷ P) x (suc k) e h = by_test (test y) (any_sent test P x k e h)
  where
    by_test : (b : Bool) → list_any test P ≡ true → (b || list_any test P) ≡ true
    by_test true e = refl
    by_test false e = e

-- each marked node has accepted something at the ballot
pub record IsCounted (P : List Packet) (N p b : ℕ) (set : Nodes) : Type 0 where
  pub size : length set ≡ N
  pub each : (j : ℕ) → get_or set j false ≡ true → (c : Cut) × In P (Accepted j p b c)

IsCounted-more : (P : List Packet) (q : Packet) (N p b : ℕ) (set : Nodes) → IsCounted P N p b set → IsCounted (P ++ q ∷ []) N p b set
IsCounted-more P q N p b set h = record { size = h.size; each = λ j e. let one = h.each j e in (one.0, sent_before P q _ one.1) }

-- a majority that accepted at a ballot chose the cut that was asked there
pub counted_chosen : (P : List Packet) (N p b : ℕ) (set : Nodes) (c : Cut) → IsSafe P N → IsCounted P N p b set → In P (Accept p b c) → has_majority N set ≡ true → ChosenIn P N p c
counted_chosen P N p b set c safe h asked many =
    let marks = marks-range set ∙ ap (λ n. count_by (λ j. get_or set j false) (range_with_len 0 n)) h.size in
    let weaker = count_weaker (λ j. get_or set j false) (λ j. list_any (accepts j p b c) P) (range_with_len 0 N) (λ j e. accepted j (h.each j e)) in
    (b, omega (arith, leb-true _ _ many, marks, weaker))
  where
    accepted : (j : ℕ) → (d : Cut) × In P (Accepted j p b d) → list_any (accepts j p b c) P ≡ true
    accepted j one =
        let same : one.0 ≡ c = safe.one_cut p b one.0 c (safe.asked j p b one.0 one.1) asked in
        let was : In P (Accepted j p b c) = subst (λ d. In P (Accepted j p b d)) same one.1 in
        any_sent (accepts j p b c) P (Accepted j p b c) was.0 was.1 (accepts_itself j p b c)

-- ---- what a node has learned and counted

pub record Tells (P : List Packet) (N now : ℕ) (learned : List Cut) (tally : Tally) : Type 0 where
  pub chosen : (p : ℕ) (c : Cut) → slice_get learned p ≡ Some c → ChosenIn P N p c
  pub counted : (b : ℕ) (set : Nodes) → lookup (λ x. x == b) tally ≡ Some set → IsCounted P N now b set

Tells-more : (P : List Packet) (q : Packet) (N now : ℕ) (learned : List Cut) (tally : Tally) → Tells P N now learned tally → Tells (P ++ q ∷ []) N now learned tally
Tells-more P q N now learned tally h = record {
  chosen = λ p c e. ChosenIn-more P q N p c (h.chosen p c e);
  counted = λ b set e. IsCounted-more P q N now b set (h.counted b set e);
}

IsCounted-nobody : (P : List Packet) (N p b : ℕ) → IsCounted P N p b (nobody N)
IsCounted-nobody P N p b = record { size = length-nobody N; each = λ j e. absurd (both_ways _ (nobody_here N j) e) }

pub accepting_counted : (P : List Packet) (N now b : ℕ) (learned : List Cut) (tally : Tally) → Tells P N now learned tally → IsCounted P N now b (accepting_at N b tally)
accepting_counted P N now b learned tally h = either (lookup (λ x. x == b) tally) refl
  where
    either : (o : Option Nodes) → lookup (λ x. x == b) tally ≡ o → IsCounted P N now b (unwrap_or o (nobody N))
    either None e = IsCounted-nobody P N now b
    either (Some set) e = h.counted b set e

-- what is looked up after an entry is put in was put in, or was there
lookup_insert : (t : Tally) (k : ℕ) (v : Nodes) (b : ℕ) (set : Nodes) → lookup (λ x. x == b) (insert_entry nat_cmp t k v) ≡ Some set → ((k ≡ b) × (v ≡ set)) ⊎ (lookup (λ x. x == b) t ≡ Some set)
lookup_insert [] k v b set h = by_test (k == b) refl h
  where
    by_test : (x : Bool) → (k == b) ≡ x → cond x (Some v) None ≡ Some set → ((k ≡ b) × (v ≡ set)) ⊎ (None ≡ Some set)
    by_test true e f = inl (eqb-true k b e, same_Some _ _ f)
    by_test false e f = inr f
lookup_insert (e ∷ t) k v b set h = by_order (nat_cmp k e.0) refl h (lookup_insert t k v b set)
  where
    head : (x : Bool) → (k == b) ≡ x → (rest : Option Nodes) → cond x (Some v) rest ≡ Some set → ((k ≡ b) × (v ≡ set)) ⊎ (rest ≡ Some set)
    head true f rest g = inl (eqb-true k b f, same_Some _ _ g)
    head false f rest g = inr g

    same : (x : Bool) → (e.0 == b) ≡ x → e.0 ≡ k → cond x (Some v) (lookup (λ x. x == b) t) ≡ Some set → ((k ≡ b) × (v ≡ set)) ⊎ (cond x (Some e.1) (lookup (λ x. x == b) t) ≡ Some set)
    same true f at g = inl (sym at ∙ eqb-true e.0 b f, same_Some _ _ g)
    same false f at g = inr g

    later : (x : Bool) → (e.0 == b) ≡ x → cond x (Some e.1) (lookup (λ x. x == b) (insert_entry nat_cmp t k v)) ≡ Some set
        → (lookup (λ x. x == b) (insert_entry nat_cmp t k v) ≡ Some set → ((k ≡ b) × (v ≡ set)) ⊎ (lookup (λ x. x == b) t ≡ Some set))
        → ((k ≡ b) × (v ≡ set)) ⊎ (cond x (Some e.1) (lookup (λ x. x == b) t) ≡ Some set)
    later true f g rest = inr g
    later false f g rest = rest g

    by_order : (o : Ordering) → nat_cmp k e.0 ≡ o → lookup (λ x. x == b) (match_ordering o ((k, v) ∷ e ∷ t) ((e.0, v) ∷ t) (e ∷ insert_entry nat_cmp t k v)) ≡ Some set
        → (lookup (λ x. x == b) (insert_entry nat_cmp t k v) ≡ Some set → ((k ≡ b) × (v ≡ set)) ⊎ (lookup (λ x. x == b) t ≡ Some set))
        → ((k ≡ b) × (v ≡ set)) ⊎ (lookup (λ x. x == b) (e ∷ t) ≡ Some set)
    by_order Less is g rest = head (k == b) refl _ g
    by_order Equal is g rest = same (e.0 == b) refl (sym (exact_unsigned k e.0 is)) g
    by_order Greater is g rest = later (e.0 == b) refl g rest

-- ---- the world

pub record IsTold (N : ℕ) (w : World) : Type 0 where
  pub kept : IsKept N w
  pub decided : (p : ℕ) (c : Cut) → In w.packets (Decided p c) → ChosenIn w.packets N p c
  pub nodes : (i : ℕ) (n : Node) → slice_get w.nodes i ≡ Some n → Tells w.packets N (current_period n) n.kept.learned n.tally

-- what a packet tells of what was chosen is so
abbrev IsTruth : List Packet → ℕ → Packet → Type 0
IsTruth P N (CarriesBatch b) = Unit {0}
IsTruth P N (Prepare p b) = Unit {0}
IsTruth P N (Promise i p b v) = Unit {0}
IsTruth P N (Accept p b c) = Unit {0}
IsTruth P N (Accepted i p b c) = Unit {0}
IsTruth P N (Decided p c) = ChosenIn P N p c

decided_more : (P : List Packet) (N : ℕ) (q : Packet) → ((p : ℕ) (c : Cut) → In P (Decided p c) → ChosenIn P N p c) → IsTruth P N q → (p : ℕ) (c : Cut) → In (P ++ q ∷ []) (Decided p c) → ChosenIn (P ++ q ∷ []) N p c
decided_more P N q h truth p c sent = elim (sent_split P q _ sent) [
  | inl old ↦ ChosenIn-more P q N p c (h p c old)
  | inr new ↦ ChosenIn-more P q N p c (subst (IsTruth P N) new truth)
]

abbrev NodeTells : List Packet → ℕ → Node → Type 0
NodeTells P N n = Tells P N (current_period n) n.kept.learned n.tally

abbrev SendsTruth : List Packet → ℕ → Option Packet → Type 0
SendsTruth P N None = Unit {0}
SendsTruth P N (Some q) = IsTruth P N q

told_after : (N : ℕ) (w : World) (i : ℕ) (n : Node) (o : Option Packet) → IsTold N w → IsKept N (after w i n o) → NodeTells w.packets N n → SendsTruth w.packets N o → IsTold N (after w i n o)
told_after N w i n None h kept tells truth = record {
  kept = kept;
  decided = h.decided;
  nodes = λ j m e. elim (get-slice_set w.nodes i j n m e) [
    | inl here ↦ subst (NodeTells w.packets N) (sym here.1) tells
    | inr there ↦ h.nodes j m there.1
  ];
}
told_after N w i n (Some q) h kept tells truth = record {
  kept = kept;
  decided = decided_more w.packets N q h.decided truth;
  nodes = λ j m e. elim (get-slice_set w.nodes i j n m e) [
    | inl here ↦ subst (NodeTells (w.packets ++ q ∷ []) N) (sym here.1) (Tells-more w.packets q N (current_period n) n.kept.learned n.tally tells)
    | inr there ↦ Tells-more w.packets q N (current_period m) m.kept.learned m.tally (h.nodes j m there.1)
  ];
}

pub get-push : {A : Type 0} (xs : List A) (x y : A) (k : ℕ) → slice_get (xs ++ x ∷ []) k ≡ Some y → (slice_get xs k ≡ Some y) ⊎ ((k ≡ length xs) × (x ≡ y))
get-push [] x y zero e = inr (refl, same_Some _ _ e)
get-push [] x y (suc k) e = absurd (cc)
get-push (z ∷ xs) x y zero e = inl e
get-push (z ∷ xs) x y (suc k) e = elim (get-push xs x y k e) [
  | inl old ↦ inl old
  | inr new ↦ inr (ap (λ k. suc k) new.0, new.1)
]

abbrev Does : List Packet → ℕ → Handled → Type 0
Does P N h = NodeTells P N h.node × SendsTruth P N h.sends

module _ (N : ℕ) (w : World) (told : IsTold N w) (i : ℕ) (n : Node) (tells : NodeTells w.packets N n) where
  by_flag : (b : Bool) (x y : Handled) → (b ≡ true → Does w.packets N x) → Does w.packets N y → Does w.packets N (cond b x y)
  by_flag true x y h k = h refl
  by_flag false x y h k = k

  by_learned : (p : ℕ) (x : Handled) → Does w.packets N x → Does w.packets N (unless_learned p n x)
  by_learned p x h = either (slice_get n.kept.learned p) refl
    where
      either : (o : Option Cut) → slice_get n.kept.learned p ≡ o → Does w.packets N (elim o [ Some cut ↦ sending (Decided p cut) n | None ↦ x ])
      either (Some cut) e = (tells, tells.chosen p cut e)
      either None e = h

  learns : (c : Cut) → ChosenIn w.packets N (current_period n) c → Does w.packets N (learning c n)
  learns c was = (
    record {
      chosen = λ p d e. elim (get-push n.kept.learned c d p e) [
        | inl old ↦ tells.chosen p d old
        | inr new ↦ subst (λ q. ChosenIn w.packets N q d) (sym new.0) (subst (ChosenIn w.packets N (current_period n)) new.1 was)
      ];
      counted = λ b set e. absurd (none-some set e);
    },
    tt,
  )

  -- one more node that accepted
  counts : (from b : ℕ) (c : Cut) → In w.packets (Accepted from (current_period n) b c) → Tells w.packets N (current_period n) n.kept.learned (with_accepted N from b n.tally)
  counts from b c was = record {
    chosen = tells.chosen;
    counted = λ k set e. elim (lookup_insert n.tally b (with_node from (accepting_at N b n.tally)) k set e) [
      | inl new ↦ subst (λ x. IsCounted w.packets N (current_period n) x set) new.0 (subst (IsCounted w.packets N (current_period n) b) new.1 marked)
      | inr old ↦ tells.counted k set old
    ];
  }
    where
      before : IsCounted w.packets N (current_period n) b (accepting_at N b n.tally)
      before = accepting_counted w.packets N (current_period n) b n.kept.learned n.tally tells

      marked : IsCounted w.packets N (current_period n) b (with_node from (accepting_at N b n.tally))
      marked = record {
        size = length-set (accepting_at N b n.tally) from true ∙ before.size;
        each = λ j e. elim (one_more (accepting_at N b n.tally) from j e) [
          | inl same ↦ (c, subst (λ k. In w.packets (Accepted k (current_period n) b c)) same was)
          | inr old ↦ before.each j old
        ];
      }

  accepted : (from b : ℕ) (c : Cut) → In w.packets (Accepted from (current_period n) b c) → Does w.packets N (after_accepted w n b c (with_accepted (voter_count w) from b n.tally))
  accepted from b c was =
      subst (λ k. Does w.packets N (cond (has_majority k (accepting_at k b (with_accepted k from b n.tally))) (learning c n) (silent (record n { tally = with_accepted k from b n.tally })))) (sym told.kept.count)
      (by_flag (has_majority N (accepting_at N b (with_accepted N from b n.tally))) (learning c n) (silent (record n { tally = with_accepted N from b n.tally })) enough (more, tt))
    where
      more : Tells w.packets N (current_period n) n.kept.learned (with_accepted N from b n.tally)
      more = counts from b c was

      enough : has_majority N (accepting_at N b (with_accepted N from b n.tally)) ≡ true → Does w.packets N (learning c n)
      enough many = learns c (counted_chosen w.packets N (current_period n) b (accepting_at N b (with_accepted N from b n.tally)) c told.kept.safe
          (accepting_counted w.packets N (current_period n) b n.kept.learned (with_accepted N from b n.tally) more)
          (told.kept.safe.asked from (current_period n) b c was) many)

  by_vote : (x : Handled) → Does w.packets N x → Does w.packets N (if_votes w i n x)
  by_vote x h = by_flag (votes w i) x (silent n) (λ e. h) (tells, tt)

  silence : Does w.packets N (silent n)
  silence = (tells, tt)

  promised : (from p b : ℕ) (v : Option Vote) → Does w.packets N (handled w i n (Promise from p b v))
  promised from p b v = by_vote (on_promise w n from p b v) (by_attempt n.attempt)
    where
      by_attempt : (o : Option Attempt) → Does w.packets N (elim o [ None ↦ silent n | Some a ↦ cond ((p == current_period n) && (a.ballot == b) && not a.sent) (after_promise w n p b (with_promise from v a)) (silent n) ])
      by_attempt None = (tells, tt)
      by_attempt (Some a) = by_flag ((p == current_period n) && (a.ballot == b) && not a.sent) (after_promise w n p b (with_promise from v a)) (silent n) (λ e. by_flag (has_majority (voter_count w) (with_promise from v a).promising) _ _ (λ e. (tells, tt)) (tells, tt)) (tells, tt)

  does : (q : Packet) → In w.packets q → Does w.packets N (handled w i n q)
  does (CarriesBatch b) was = (tells, tt)
  does (Prepare p b) was = by_learned p (if_votes w i n (on_prepare i n p b)) (by_vote (on_prepare i n p b) (by_flag _ _ _ (λ e. (tells, tt)) (tells, tt)))
  does (Promise from p b v) was = promised from p b v
  does (Accept p b c) was = by_learned p (if_votes w i n (on_accept i n p b c)) (by_vote (on_accept i n p b c) (by_flag _ _ _ (λ e. (tells, tt)) (tells, tt)))
  does (Accepted from p b c) was = by_flag (p == current_period n) _ (silent n) (λ e. accepted from b c (subst (λ r. In w.packets (Accepted from r b c)) (eqb-true p (current_period n) e) was)) (tells, tt)
  does (Decided p c) was = by_flag (p == current_period n) _ (silent n) (λ e. learns c (subst (λ r. ChosenIn w.packets N r c) (eqb-true p (current_period n) e) (told.decided p c was))) (tells, tt)

module _ (N : ℕ) where
  steps : IsKeptBySteps (IsKept N)
  steps = IsKept-steps N

  pub IsTold-steps : IsKeptBySteps (IsTold N)
  IsTold-steps = record {
    journals = λ w b h next. record {
      kept = steps.journals w b h.kept next;
      decided = decided_more w.packets N (CarriesBatch b) h.decided tt;
      nodes = λ j m e. Tells-more w.packets (CarriesBatch b) N (current_period m) m.kept.learned m.tally (h.nodes j m e);
    };
    delivers = λ w i n q h may.
        let well = does N w h i n (h.nodes i n may.found) q may.sent in
        told_after N w i (handled w i n q).node (handled w i n q).sends h (steps.delivers w i n q h.kept may) well.0 well.1;
    starts = λ w i n h may. told_after N w i (started w i n) (Some (start_packet w i n)) h (steps.starts w i n h.kept may) (h.nodes i n may.found) tt;
    restarts = λ w i n h found. told_after N w i (wake n.kept) None h (steps.restarts w i n h.kept found) (record { chosen = (h.nodes i n found).chosen; counted = λ b set e. absurd (none-some set e) }) tt;
  }

pub IsTold-opening : (room voters observers agents : ℕ) (sheet : Sheet) (issuer : Issuer) → IsTold voters (opening_with room voters observers agents sheet issuer)
IsTold-opening room voters observers agents sheet issuer = record {
  kept = IsKept-opening room voters observers agents sheet issuer;
  decided = λ p c h. absurd (none_sent _ h);
  nodes = λ i n e. subst (NodeTells [] voters) (sym (get-replicate (voters + observers) i (wake new_kept) n e)) (record {
    chosen = λ p c e. absurd (none-some c e);
    counted = λ b set e. absurd (none-some set e);
  });
}

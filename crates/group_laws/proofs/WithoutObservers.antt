-- Observers change nothing at the voters, as long as no packet of an observer comes to one.
use Rattle.std.proofs.Common.{◌≡◌, ℕ, zero, suc, ◌+◌, ◌<◌, ◌≤◌, Bool, true, false, cond, List, [], ◌∷◌, ◌++◌, length, replicate, refl, sym, ap, ◌∙◌, subst, arith, Option, Some, None, inl, inr, Result, Ok, Err, nat_lt, nat_le, ok_or, All, unwrap_or, eq-eqb, eqb-true, leb-true}
use Rattle.std.specs.Prelude.{slice_get, slice_set, ◌==◌, if◌then◌else◌}
use Rattle.std.specs.Option.{option_map}
use Rattle.std.proofs.lemmas.Bool.{lt-ltb, ltb-true, ltb-false, leb-false}
use Rattle.std.proofs.lemmas.List.{length-append}
use Rattle.std.proofs.lemmas.List.Elements.{All-head, All-tail}
use Rattle.std.proofs.lemmas.Option.{same_Some, none-some, slice_get_past, slice_get_within}
use Rattle.metering_model.specs.FirstFailure.{◌>>=◌, holds_or}
use Rattle.metering_model.specs.Batch.{Batch}
use Rattle.metering_model.specs.BatchReading.{is_same, with_first}
use Rattle.metering_model.specs.Holding.{Holding, placed, put}
use Rattle.metering_model.specs.JournalRules.{next_seq, first_broken}
use Rattle.metering_model.specs.Sheet.{Sheet, Issuer}
use Rattle.metering_model.specs.declared.Refusal.{Refusal}
use Rattle.metering_model.specs.declared.Refusal.TheVariants.{NoPacket, NoNode, NoAgent, WrongSeq, AllClosed, NoBallot, WorldFull, Observer, NotKept}
use Rattle.metering_model.specs.World.{World, Node, Packet, CarriesBatch, Prepare, Promise, Accept, Accepted, Decided, Event, Journal, Deliver}
use Rattle.metering_model.specs.World.{Start, Restart, Export, Keep, Revive, KeptOffer, Delivered, Reply, Refused, Exported, Snapshot, votes}
use Rattle.metering_model.specs.World.{current_period, wake, new_kept, with_node_at, with_packet, next_packet, opening_with}
use Rattle.metering_model.specs.Deliveries.{Handled, handled}
use Rattle.metering_model.specs.KeptText.{kept_text}
use Rattle.metering_model.specs.Step.{Outcome, batch_of, on_batch, on_delivery, on_start, on_export, on_revival, kept_of, kept_now, after_delivery, outcome_of, or_refused, unless_broken, snapshot, step, play}
use Rattle.group_laws.specs.Alone.{unnumbered}
use Rattle.group_laws.specs.Observers.{is_beyond, Numbers, numbers_after, next_after, renumbered, without, Follows, IsFollowed}
use Rattle.group_laws.proofs.Told.{get-push}
use Rattle.group_laws.proofs.Observing.{TellsCut, observer_tells}

-- ---- lists

pub set_same : {A : Type 0} (xs : List A) (i : ℕ) (x : A) → slice_get (slice_set xs i x) i ≡ option_map (λ _. x) (slice_get xs i)
set_same [] i x = refl
set_same (y ∷ xs) zero x = refl
set_same (y ∷ xs) (suc i) x = set_same xs i x

pub set_other : {A : Type 0} (xs : List A) (i j : ℕ) (x : A) → (j ≡ i → ⊥) → slice_get (slice_set xs i x) j ≡ slice_get xs j
set_other [] i j x differs = refl
set_other (y ∷ xs) zero zero x differs = absurd (differs refl)
set_other (y ∷ xs) zero (suc j) x differs = refl
set_other (y ∷ xs) (suc i) zero x differs = refl
set_other (y ∷ xs) (suc i) (suc j) x differs = set_other xs i j x (λ same. differs (ap (λ k. suc k) same))

-- what is alike at a place stays so where both are set alike
pub set_alike : {A : Type 0} (xs ys : List A) (i j : ℕ) (x : A) → slice_get ys j ≡ slice_get xs j → slice_get (slice_set ys i x) j ≡ slice_get (slice_set xs i x) j
set_alike xs ys i j x alike = by_test (j == i) refl
  where
    here : slice_get ys j ≡ slice_get xs j → j ≡ i → slice_get (slice_set ys i x) j ≡ slice_get (slice_set xs i x) j
    here e same =
        let at : slice_get ys i ≡ slice_get xs i = subst (λ k. slice_get ys k ≡ slice_get xs k) same e in
        subst (λ k. slice_get (slice_set ys i x) k ≡ slice_get (slice_set xs i x) k) (sym same) (set_same ys i x ∙ ap (option_map (λ _. x)) at ∙ sym (set_same xs i x))

    by_test : (b : Bool) → (j == i) ≡ b → slice_get (slice_set ys i x) j ≡ slice_get (slice_set xs i x) j
    by_test true e = here alike (eqb-true _ _ e)
    by_test false e =
        let differs : j ≡ i → ⊥ = λ same. let t = eq-eqb j i same in absurd (cc (t, e)) in
        set_other ys i j x differs ∙ alike ∙ sym (set_other xs i j x differs)

pub some_at : {A : Type 0} (xs : List A) (k : ℕ) → k < length xs → (x : A) × (slice_get xs k ≡ Some x)
some_at [] k low = absurd (omega (arith, low))
some_at (x ∷ xs) zero low = (x, refl)
some_at (x ∷ xs) (suc k) low = some_at xs k (omega (arith, low))

get_before : {A : Type 0} (xs : List A) (y x : A) (k : ℕ) → slice_get xs k ≡ Some x → slice_get (xs ++ y ∷ []) k ≡ Some x
get_before [] y x k e = absurd (none-some _ e)
get_before (z ∷ xs) y x zero e = e
get_before (z ∷ xs) y x (suc k) e = get_before xs y x k e

get_last : {A : Type 0} (xs : List A) (y : A) → slice_get (xs ++ y ∷ []) (length xs) ≡ Some y
get_last [] y = refl
get_last (z ∷ xs) y = get_last xs y

pub get_copy : {A : Type 0} (n : ℕ) (x : A) (k : ℕ) → k < n → slice_get (replicate n x) k ≡ Some x
get_copy zero x k low = absurd (omega (arith, low))
get_copy (suc n) x zero low = refl
get_copy (suc n) x (suc k) low = get_copy n x k (omega (arith, low))

-- ---- one thing changes

module _ (N : ℕ) (numbers : Numbers) (next : ℕ) (w u : World) (h : Follows N numbers next w u) where
  -- the packet of a number is there, in both
  both_have : (k j : ℕ) → slice_get numbers k ≡ Some (Some j) → (q : Packet) × (slice_get w.packets k ≡ Some q) × (slice_get u.packets j ≡ Some q)
  both_have k j e =
      let low = slice_get_within numbers k (Some j) e in
      let here = some_at w.packets k (omega (arith, low, h.each_packet)) in
      (here.0, here.1, h.packets k j e ∙ here.1)

  -- what stands before the end, or before another one, was there
  before_end : (k : ℕ) (o p : Option ℕ) → k < length numbers → slice_get (numbers ++ p ∷ []) k ≡ Some o → slice_get numbers k ≡ Some o
  before_end k o p low e =
      let here = some_at numbers k low in
      here.1 ∙ sym (get_before numbers p here.0 k here.1) ∙ e

  earlier : (k l : ℕ) (m : Option ℕ) → k < l → (o p : Option ℕ) → slice_get numbers l ≡ Some m → slice_get (numbers ++ p ∷ []) k ≡ Some o → slice_get numbers k ≡ Some o
  earlier k l m less o p at e = let within = slice_get_within numbers l m at in before_end k o p (omega (arith, less, within)) e

  -- a voter, in both
  pub setting : (i : ℕ) (m : Node) → Follows N numbers next (with_node_at i m w) (with_node_at i m u)
  setting i m = record {
    sheet = h.sheet;
    issuer = h.issuer;
    agents = h.agents;
    journals = h.journals;
    room = h.room;
    votes = h.votes;
    other_votes = h.other_votes;
    nodes = λ j low. set_alike w.nodes u.nodes i j m (h.nodes j low);
    each_packet = h.each_packet;
    packets = h.packets;
    rising = h.rising;
    left_out = h.left_out;
    no_other = h.no_other;
    sent = h.sent;
    fewer = h.fewer;
  }

  -- an observer
  observing : (i : ℕ) (m : Node) → N ≤ i → Follows N numbers next (with_node_at i m w) u
  observing i m beyond = record {
    sheet = h.sheet;
    issuer = h.issuer;
    agents = h.agents;
    journals = h.journals;
    room = h.room;
    votes = h.votes;
    other_votes = h.other_votes;
    nodes = λ j low. h.nodes j low ∙ sym (set_other w.nodes i j m (λ same. omega (arith, same, low, beyond)));
    each_packet = h.each_packet;
    packets = h.packets;
    rising = h.rising;
    left_out = h.left_out;
    no_other = h.no_other;
    sent = h.sent;
    fewer = h.fewer;
  }

  -- a packet, in both
  sending : (q : Packet) → Follows N (numbers ++ Some next ∷ []) (next + 1) (with_packet q w) (with_packet q u)
  sending q = record {
    sheet = h.sheet;
    issuer = h.issuer;
    agents = h.agents;
    journals = h.journals;
    room = h.room;
    votes = h.votes;
    other_votes = h.other_votes;
    nodes = h.nodes;
    each_packet = let size = h.each_packet in omega (arith, size, length-append numbers (Some next ∷ []), length-append w.packets (q ∷ []));
    packets = λ k j e. elim (get-push numbers (Some next) (Some j) k e) [
      | inl old ↦
          let both = both_have k j old in
          get_before u.packets q both.0 j both.2 ∙ sym (get_before w.packets q both.0 k both.1)
      | inr new ↦
          let at : j ≡ length u.packets = sym (same_Some _ _ new.1) ∙ sym h.sent in
          let of : k ≡ length w.packets = new.0 ∙ h.each_packet in
          ap (slice_get (u.packets ++ q ∷ [])) at ∙ get_last u.packets q ∙ sym (ap (slice_get (w.packets ++ q ∷ [])) of ∙ get_last w.packets q)
    ];
    rising = λ k l j m less e f. elim (get-push numbers (Some next) (Some m) l f) [
      | inl old ↦ h.rising k l j m less (earlier k l (Some m) less (Some j) (Some next) old e) old
      | inr new ↦
          let was : slice_get numbers k ≡ Some (Some j) = before_end k (Some j) (Some next) (omega (arith, less, new.0)) e in
          let both = both_have k j was in
          let within = slice_get_within u.packets j both.0 both.2 in
          let last : next ≡ m = same_Some _ _ new.1 in
          let count = h.sent in
          omega (arith, within, last, count)
    ];
    left_out = λ k e. elim (get-push numbers (Some next) None k e) [
      | inl old ↦ let was = h.left_out k old in (was.0, was.1, get_before w.packets q (Decided was.0 was.1) k was.2)
      | inr new ↦ absurd (none-some next (sym new.1))
    ];
    no_other = λ j low. by_place j low (nat_lt j (length u.packets)) refl;
    sent = let was = h.sent in omega (arith, was, length-append u.packets (q ∷ []));
    fewer = let was = h.fewer in omega (arith, was, length-append u.packets (q ∷ []), length-append w.packets (q ∷ []));
  }
    where
      by_place : (j : ℕ) → j < length (u.packets ++ q ∷ []) → (b : Bool) → nat_lt j (length u.packets) ≡ b → (k : ℕ) × (slice_get (numbers ++ Some next ∷ []) k ≡ Some (Some j))
      by_place j low true e = let old = h.no_other j (ltb-true _ _ e) in (old.0, get_before numbers (Some next) (Some j) old.0 old.1)
      by_place j low false e =
          let high = ltb-false _ _ e in
          let was = h.sent in
          let last : next ≡ j = omega (arith, low, high, was, length-append u.packets (q ∷ [])) in
          (length numbers, get_last numbers (Some next) ∙ ap (λ n. Some (Some n)) last)

  -- a packet of an observer
  unheard : (q : Packet) → TellsCut q → Follows N (numbers ++ None ∷ []) next (with_packet q w) u
  unheard q tells = record {
    sheet = h.sheet;
    issuer = h.issuer;
    agents = h.agents;
    journals = h.journals;
    room = h.room;
    votes = h.votes;
    other_votes = h.other_votes;
    nodes = h.nodes;
    each_packet = let size = h.each_packet in omega (arith, size, length-append numbers (None ∷ []), length-append w.packets (q ∷ []));
    packets = λ k j e. elim (get-push numbers None (Some j) k e) [
      | inl old ↦
          let both = both_have k j old in
          both.2 ∙ sym (get_before w.packets q both.0 k both.1)
      | inr new ↦ absurd (none-some _ new.1)
    ];
    rising = λ k l j m less e f. elim (get-push numbers None (Some m) l f) [
      | inl old ↦ h.rising k l j m less (earlier k l (Some m) less (Some j) None old e) old
      | inr new ↦ absurd (none-some _ new.1)
    ];
    left_out = λ k e. elim (get-push numbers None None k e) [
      | inl old ↦ let was = h.left_out k old in (was.0, was.1, get_before w.packets q (Decided was.0 was.1) k was.2)
      | inr new ↦
          let of : k ≡ length w.packets = new.0 ∙ h.each_packet in
          (tells.0, tells.1, ap (slice_get (w.packets ++ q ∷ [])) of ∙ get_last w.packets q ∙ ap Some tells.2)
    ];
    no_other = λ j low. let old = h.no_other j low in (old.0, get_before numbers None (Some j) old.0 old.1);
    sent = h.sent;
    fewer = let was = h.fewer in omega (arith, was, length-append w.packets (q ∷ []));
  }

  -- a batch, in both journals
  journaled : (b : Batch) → Follows N numbers next (record w { journals = put w.journals b }) (record u { journals = put u.journals b })
  journaled b = record {
    sheet = h.sheet;
    issuer = h.issuer;
    agents = h.agents;
    journals = ap (λ (x : Holding). put x b) h.journals;
    room = h.room;
    votes = h.votes;
    other_votes = h.other_votes;
    nodes = h.nodes;
    each_packet = h.each_packet;
    packets = h.packets;
    rising = h.rising;
    left_out = h.left_out;
    no_other = h.no_other;
    sent = h.sent;
    fewer = h.fewer;
  }

-- ---- what is at an observer

module _ (N : ℕ) (numbers : Numbers) (next : ℕ) (w u : World) (h : Follows N numbers next w u) where
  abbrev Passes : Result Outcome Refusal → Type 0
  Passes r = Follows N (numbers_after None (or_refused w r).0 numbers) next (or_refused w r).1 u

  pass_bind : {A : Type 0} (r : Result A Refusal) (f : A → Result Outcome Refusal) → ((x : A) → r ≡ Ok x → Passes (f x)) → Passes (r >>= f)
  pass_bind (Ok x) f passes = passes x refl
  pass_bind (Err e) f passes = h

  handled_passes : (i : ℕ) (x : Handled) → N ≤ i → ((r : Packet) → x.sends ≡ Some r → TellsCut r) → Passes (after_delivery w i x)
  handled_passes i x beyond tells = by_sends x.sends tells
    where
      by_sends : (o : Option Packet) → ((r : Packet) → o ≡ Some r → TellsCut r) → Passes (elim o [ None ↦ Ok (Delivered None x.learns, with_node_at i x.node w) | Some p ↦ next_packet w >>= λ k. Ok (Delivered (Some k) x.learns, with_packet p (with_node_at i x.node w)) ])
      by_sends None tells = observing N numbers next w u h i x.node beyond
      by_sends (Some q) tells = pass_bind (next_packet w) _ (λ k room. unheard N numbers next (with_node_at i x.node w) u (observing N numbers next w u h i x.node beyond) q (tells q refl))

  no_vote : (i : ℕ) → N ≤ i → votes w i ≡ true → ⊥
  no_vote i beyond e = let low = ltb-true _ _ e in let same = h.votes in omega (arith, low, same, beyond)

  held : (b : Bool) (e : Refusal) (t : Unit {0}) → holds_or b e ≡ Ok t → b ≡ true
  held true e t h = refl
  held false e t h = absurd (cc)

  start_passes : (i : ℕ) → N ≤ i → Passes (on_start w i)
  start_passes i beyond =
      pass_bind (ok_or (slice_get w.nodes i) NoNode) _ (λ n at.
      pass_bind (holds_or (votes w i) Observer) _ (λ t voter. absurd (no_vote i beyond (held (votes w i) Observer t voter))))

  revival_passes : (i : ℕ) (offer : KeptOffer) → N ≤ i → Passes (on_revival w i offer)
  revival_passes i offer beyond =
      pass_bind (ok_or (slice_get w.nodes i) NoNode) _ (λ n at.
      pass_bind (kept_of offer) _ (λ k taken.
      pass_bind (holds_or (is_same (kept_text k) (kept_text (kept_now w n))) NotKept) _ (λ t same. observing N numbers next w u h i (wake k.kept) beyond)))

  pub beyond_passes : (e : Event) → is_beyond N e ≡ true → Passes (outcome_of w e)
  beyond_passes (Journal offer) e = absurd (cc)
  beyond_passes (Deliver k i) e =
      pass_bind (ok_or (slice_get w.packets k) NoPacket) _ (λ q is.
      pass_bind (ok_or (slice_get w.nodes i) NoNode) _ (λ n at.
      handled_passes i (handled w i n q) (leb-true _ _ e) (observer_tells w i n (subst (λ k. k ≤ i) (sym h.votes) (leb-true _ _ e)) q)))
  beyond_passes (Start i) e = start_passes i (leb-true _ _ e)
  beyond_passes (Restart i) e = pass_bind (ok_or (slice_get w.nodes i) NoNode) _ (λ n at. observing N numbers next w u h i (wake n.kept) (leb-true _ _ e))
  beyond_passes (Export i p) e = pass_bind (snapshot w i p) _ (λ s is. h)
  beyond_passes (Keep i) e = pass_bind (ok_or (slice_get w.nodes i) NoNode) _ (λ n at. h)
  beyond_passes (Revive i offer) e = revival_passes i offer (leb-true _ _ e)

-- ---- what is at a voter, or is journaled

-- the world with other packets and nodes
abbrev beside : World → List Packet → List Node → World
beside w P V = record w { packets = P; nodes = V }

same_parts : (s t : Sheet) (i j : Issuer) (a b : ℕ) (f g : Holding) (r q : ℕ) (m n : ℕ) (P : List Packet) (V : List Node) → s ≡ t → i ≡ j → a ≡ b → f ≡ g → r ≡ q → m ≡ n
    → ◌≡◌ {A = World} (record { sheet = s; issuer = i; agents = a; journals = f; room = r; packets = P; voters = m; nodes = V }) (record { sheet = t; issuer = j; agents = b; journals = g; room = q; packets = P; voters = n; nodes = V })
same_parts s t i j a b f g r q m n P V one two three four five six = cc

is_beside : (N : ℕ) (numbers : Numbers) (next : ℕ) (w u : World) → Follows N numbers next w u → u ≡ beside w u.packets u.nodes
is_beside N numbers next w u h =
    same_parts u.sheet w.sheet u.issuer w.issuer u.agents w.agents u.journals w.journals u.room w.room u.voters w.voters u.packets u.nodes h.sheet h.issuer h.agents h.journals h.room (h.other_votes ∙ sym h.votes)

handled_alike : (w : World) (P : List Packet) (V : List Node) (i : ℕ) (n : Node) (q : Packet) → handled (beside w P V) i n q ≡ handled w i n q
handled_alike w P V i n (CarriesBatch b) = refl
handled_alike w P V i n (Prepare period ballot) = refl
handled_alike w P V i n (Promise from period ballot vote) = refl
handled_alike w P V i n (Accept period ballot cut) = refl
handled_alike w P V i n (Accepted from period ballot cut) = refl
handled_alike w P V i n (Decided period cut) = refl

module _ (N : ℕ) (numbers : Numbers) (next : ℕ) (w : World) (P : List Packet) (V : List Node) (h : Follows N numbers next w (beside w P V)) where
  abbrev u : World
  u = beside w P V

  -- Both do the same and are answered alike, where the first is not refused for a full world. One that is changes nothing.
  record Pairs (r s : Result Outcome Refusal) : Type 0 where
    pub full : (or_refused w r).0 ≡ Refused WorldFull → (or_refused w r).1 ≡ w
    pub alike : ((or_refused w r).0 ≡ Refused WorldFull → ⊥) → unnumbered (or_refused w r).0 ≡ unnumbered (or_refused u s).0
    pub told : ((or_refused w r).0 ≡ Refused WorldFull → ⊥)
        → Follows N (numbers_after (Some next) (or_refused w r).0 numbers) (next_after (or_refused w r).0 next) (or_refused w r).1 (or_refused u s).1

  pair_bind : {A : Type 0} (r : Result A Refusal) (f g : A → Result Outcome Refusal) → ((x : A) → Pairs (f x) (g x)) → Pairs (r >>= f) (r >>= g)
  pair_bind (Ok x) f g pairs = pairs x
  pair_bind (Err e) f g pairs = record { full = λ is. refl; alike = λ fits. refl; told = λ fits. h }

  -- what is found is the same
  pair_found : {A : Type 0} (o p : Option A) (e : Refusal) (f g : A → Result Outcome Refusal) → p ≡ o → ((x : A) → Pairs (f x) (g x)) → Pairs (ok_or o e >>= f) (ok_or p e >>= g)
  pair_found {A} o p e f g same pairs = subst (λ (x : Option A). Pairs (ok_or o e >>= f) (ok_or x e >>= g)) (sym same) (pair_bind (ok_or o e) f g pairs)

  -- where the first has room, so has the other
  pair_room : (f g : ℕ → Result Outcome Refusal) → Pairs (f (length w.packets)) (g (length P)) → Pairs (next_packet w >>= f) (next_packet u >>= g)
  pair_room f g pairs = by_tests (nat_lt (length w.packets) w.room) (nat_lt (length P) w.room) (λ e. let low = ltb-true _ _ e in let less = h.fewer in lt-ltb _ _ (omega (arith, low, less)))
    where
      by_tests : (b c : Bool) → (b ≡ true → c ≡ true)
          → Pairs ((if b then Ok (length w.packets) else Err WorldFull) >>= f) ((if c then Ok (length P) else Err WorldFull) >>= g)
      by_tests true true follows = pairs
      by_tests true false follows = absurd (let e = follows refl in cc)
      by_tests false c follows = record { full = λ is. refl; alike = λ fits. absurd (fits refl); told = λ fits. absurd (fits refl) }

  batch_pairs : (b : Batch) → Pairs (on_batch w b) (on_batch u b)
  batch_pairs b =
      pair_bind (holds_or (nat_le b.agent w.agents) NoAgent) _ _ (λ one.
      pair_bind (holds_or (b.seq == next_seq w.journals b.agent) (WrongSeq (next_seq w.journals b.agent))) _ _ (λ two.
      pair_bind (unless_broken (first_broken w.sheet (put w.journals b) (placed b))) _ _ (λ three.
      pair_room _ _ (record { full = λ is. absurd (cc); alike = λ fits. refl; told = λ fits. sending N numbers next (record w { journals = put w.journals b }) (record u { journals = put u.journals b }) (journaled N numbers next w u h b) (CarriesBatch b) }))))

  handled_pairs : (i : ℕ) (x : Handled) → Pairs (after_delivery w i x) (after_delivery u i x)
  handled_pairs i x = by_sends x.sends
    where
      by_sends : (o : Option Packet) → Pairs
          (elim o [ None ↦ Ok (Delivered None x.learns, with_node_at i x.node w) | Some p ↦ next_packet w >>= λ k. Ok (Delivered (Some k) x.learns, with_packet p (with_node_at i x.node w)) ])
          (elim o [ None ↦ Ok (Delivered None x.learns, with_node_at i x.node u) | Some p ↦ next_packet u >>= λ k. Ok (Delivered (Some k) x.learns, with_packet p (with_node_at i x.node u)) ])
      by_sends None = record { full = λ is. absurd (cc); alike = λ fits. refl; told = λ fits. setting N numbers next w u h i x.node }
      by_sends (Some q) = pair_room _ _ (record { full = λ is. absurd (cc); alike = λ fits. refl; told = λ fits. sending N numbers next (with_node_at i x.node w) (with_node_at i x.node u) (setting N numbers next w u h i x.node) q })

  -- a packet without a place among the numbers was not sent
  not_sent : (k : ℕ) → slice_get numbers k ≡ None → length w.packets ≤ k
  not_sent k at = by_room (nat_lt k (length w.packets)) refl
    where
      by_room : (b : Bool) → nat_lt k (length w.packets) ≡ b → length w.packets ≤ k
      by_room true low =
          let within = ltb-true _ _ low in
          let size = h.each_packet in
          let here = some_at numbers k (omega (arith, within, size)) in
          absurd (none-some here.0 (sym at ∙ here.1))
      by_room false low = let high = ltb-false _ _ low in omega (arith, high)

  -- the packet of the other number is the same, or both are not there
  same_packet : (k j : ℕ) → unwrap_or (slice_get numbers k) (Some next) ≡ Some j → slice_get P j ≡ slice_get w.packets k
  same_packet k j e = by_place (slice_get numbers k) refl e
    where
      by_place : (o : Option (Option ℕ)) → slice_get numbers k ≡ o → unwrap_or o (Some next) ≡ Some j → slice_get P j ≡ slice_get w.packets k
      by_place (Some x) at is = h.packets k j (at ∙ ap Some is)
      by_place None at is =
          let behind : length P ≤ j = let same = same_Some next j is in let count = h.sent in omega (arith, same, count) in
          slice_get_past P j behind ∙ sym (slice_get_past w.packets k (not_sent k at))

  delivery_pairs : (k j i : ℕ) → i < N → unwrap_or (slice_get numbers k) (Some next) ≡ Some j → Pairs (on_delivery w k i) (on_delivery u j i)
  delivery_pairs k j i low is =
      pair_found (slice_get w.packets k) (slice_get P j) NoPacket _ _ (same_packet k j is) (λ q.
      pair_found (slice_get w.nodes i) (slice_get V i) NoNode _ _ (h.nodes i low) (λ n.
      subst (λ x. Pairs (after_delivery w i (handled w i n q)) (after_delivery u i x)) (sym (handled_alike w P V i n q)) (handled_pairs i (handled w i n q))))

  start_pairs : (i : ℕ) → i < N → Pairs (on_start w i) (on_start u i)
  start_pairs i low =
      pair_found (slice_get w.nodes i) (slice_get V i) NoNode _ _ (h.nodes i low) (λ n.
      pair_bind (holds_or (votes w i) Observer) _ _ (λ one.
      pair_bind (holds_or (nat_lt (current_period n) 1_200) AllClosed) _ _ (λ two.
      pair_bind (holds_or (nat_lt n.kept.round 10_000) NoBallot) _ _ (λ three.
      pair_room _ _ (record { full = λ is. absurd (cc); alike = λ fits. refl; told = λ fits. sending N numbers next _ _ (setting N numbers next w u h i _) _ })))))

  same_snapshot : (i p : ℕ) → i < N → snapshot u i p ≡ snapshot w i p
  same_snapshot i p low = rw (h.nodes i low) refl

  export_pairs : (i p : ℕ) → i < N → Pairs (on_export w i p) (on_export u i p)
  export_pairs i p low =
      subst (λ (x : Result Snapshot Refusal). Pairs (on_export w i p) (x >>= λ s. Ok (Exported s, u))) (sym (same_snapshot i p low))
      (pair_bind (snapshot w i p) _ _ (λ s. record { full = λ is. refl; alike = λ fits. refl; told = λ fits. h }))

  keep_pairs : (i : ℕ) → i < N → Pairs (outcome_of w (Keep i)) (outcome_of u (Keep i))
  keep_pairs i low = pair_found (slice_get w.nodes i) (slice_get V i) NoNode _ _ (h.nodes i low) (λ n. record { full = λ is. refl; alike = λ fits. refl; told = λ fits. h })

  revival_pairs : (i : ℕ) (offer : KeptOffer) → i < N → Pairs (on_revival w i offer) (on_revival u i offer)
  revival_pairs i offer low =
      pair_found (slice_get w.nodes i) (slice_get V i) NoNode _ _ (h.nodes i low) (λ n.
      pair_bind (kept_of offer) _ _ (λ k.
      pair_bind (holds_or (is_same (kept_text k) (kept_text (kept_now w n))) NotKept) _ _ (λ same.
      record { full = λ is. absurd (cc); alike = λ fits. refl; told = λ fits. setting N numbers next w u h i (wake k.kept) })))

  below : (i : ℕ) → nat_le N i ≡ false → i < N
  below i e = let less = leb-false _ _ e in omega (arith, less)

  event_pairs : (e f : Event) → is_beyond N e ≡ false → renumbered numbers next e ≡ Some f → Pairs (outcome_of w e) (outcome_of u f)
  event_pairs (Journal offer) f low is = subst (λ (x : Event). Pairs (outcome_of w (Journal offer)) (outcome_of u x)) (same_Some _ _ is) (pair_bind (batch_of offer) (on_batch w) (on_batch u) batch_pairs)
  event_pairs (Deliver k i) f low is = by_number (unwrap_or (slice_get numbers k) (Some next)) refl is
    where
      by_number : (o : Option ℕ) → unwrap_or (slice_get numbers k) (Some next) ≡ o → option_map (λ j. Deliver j i) o ≡ Some f → Pairs (outcome_of w (Deliver k i)) (outcome_of u f)
      by_number None at e = absurd (none-some _ e)
      by_number (Some j) at e = subst (λ (x : Event). Pairs (outcome_of w (Deliver k i)) (outcome_of u x)) (same_Some _ _ e) (delivery_pairs k j i (below i low) at)
  event_pairs (Start i) f low is = subst (λ (x : Event). Pairs (outcome_of w (Start i)) (outcome_of u x)) (same_Some _ _ is) (start_pairs i (below i low))
  event_pairs (Restart i) f low is =
      subst (λ (x : Event). Pairs (outcome_of w (Restart i)) (outcome_of u x)) (same_Some _ _ is)
      (pair_found (slice_get w.nodes i) (slice_get V i) NoNode _ _ (h.nodes i (below i low)) (λ n. record { full = λ is. absurd (cc); alike = λ fits. refl; told = λ fits. setting N numbers next w u h i (wake n.kept) }))
  event_pairs (Export i p) f low is = subst (λ (x : Event). Pairs (outcome_of w (Export i p)) (outcome_of u x)) (same_Some _ _ is) (export_pairs i p (below i low))
  event_pairs (Keep i) f low is = subst (λ (x : Event). Pairs (outcome_of w (Keep i)) (outcome_of u x)) (same_Some _ _ is) (keep_pairs i (below i low))
  event_pairs (Revive i offer) f low is = subst (λ (x : Event). Pairs (outcome_of w (Revive i offer)) (outcome_of u x)) (same_Some _ _ is) (revival_pairs i offer (below i low))

-- ---- one event

-- an event at a voter leads to worlds that follow one another
pub step_follows : (N : ℕ) (numbers : Numbers) (next : ℕ) (w u : World) (e f : Event) → Follows N numbers next w u → is_beyond N e ≡ false → renumbered numbers next e ≡ Some f
    → ((step w e).0 ≡ Refused WorldFull → ⊥) → Follows N (numbers_after (Some next) (step w e).0 numbers) (next_after (step w e).0 next) (step w e).1 (step u f).1
step_follows N numbers next w u e f h low is fits =
    let same = is_beside N numbers next w u h in
    let here : Follows N numbers next w (beside w u.packets u.nodes) = subst (Follows N numbers next w) same h in
    subst (λ (x : World). Follows N (numbers_after (Some next) (step w e).0 numbers) (next_after (step w e).0 next) (step w e).1 (step x f).1) (sym same)
    ((event_pairs N numbers next w u.packets u.nodes here e f low is).told fits)

-- such an event is answered alike
pub step_alike : (N : ℕ) (numbers : Numbers) (next : ℕ) (w u : World) (e f : Event) → Follows N numbers next w u → is_beyond N e ≡ false → renumbered numbers next e ≡ Some f
    → ((step w e).0 ≡ Refused WorldFull → ⊥) → unnumbered (step w e).0 ≡ unnumbered (step u f).0
step_alike N numbers next w u e f h low is fits =
    let same = is_beside N numbers next w u h in
    let here : Follows N numbers next w (beside w u.packets u.nodes) = subst (Follows N numbers next w) same h in
    subst (λ (x : World). unnumbered (step w e).0 ≡ unnumbered (step x f).0) (sym same) ((event_pairs N numbers next w u.packets u.nodes here e f low is).alike fits)

-- one that is refused for a full world changes nothing
pub step_full : (N : ℕ) (numbers : Numbers) (next : ℕ) (w u : World) (e f : Event) → Follows N numbers next w u → is_beyond N e ≡ false → renumbered numbers next e ≡ Some f
    → (step w e).0 ≡ Refused WorldFull → (step w e).1 ≡ w
step_full N numbers next w u e f h low is full =
    let here : Follows N numbers next w (beside w u.packets u.nodes) = subst (Follows N numbers next w) (is_beside N numbers next w u h) h in
    (event_pairs N numbers next w u.packets u.nodes here e f low is).full full

-- ---- a run

abbrev IsNotFull : Reply → Type 0
IsNotFull r = r ≡ Refused WorldFull → ⊥

first_parts : {A : Type 0} (o : Option A) (p : Option (List A)) (xs : List A) → with_first o p ≡ Some xs → (x : A) × (ys : List A) × (o ≡ Some x) × (p ≡ Some ys) × (x ∷ ys ≡ xs)
first_parts (Some x) (Some ys) xs e = (x, ys, refl, refl, same_Some _ _ e)
first_parts (Some x) None xs e = absurd (none-some _ e)
first_parts None p xs e = absurd (none-some _ e)

-- the first event of a run, where the others are followed from whatever it leads to
event_follows : (N : ℕ) (e : Event) (es : List Event) (numbers : Numbers) (next : ℕ) (w u : World) (others : List Event) → Follows N numbers next w u → (b : Bool) → is_beyond N e ≡ b
    → cond b (without N (numbers_after None (step w e).0 numbers) next es (play (step w e).1 es).0)
    (with_first (renumbered numbers next e) (without N (numbers_after (Some next) (step w e).0 numbers) (next_after (step w e).0 next) es (play (step w e).1 es).0)) ≡ Some others
    → IsNotFull (step w e).0
    → ((m : Numbers) (n : ℕ) (x : World) (os : List Event) → Follows N m n (step w e).1 x → without N m n es (play (step w e).1 es).0 ≡ Some os → IsFollowed N (play (step w e).1 es).1 (play x os).1)
    → IsFollowed N (play (step w e).1 es).1 (play u others).1
event_follows N e es numbers next w u others h true at rest fit later =
    later (numbers_after None (step w e).0 numbers) next u others (beyond_passes N numbers next w u h e at) rest
event_follows N e es numbers next w u others h false at rest fit later =
    let parts = first_parts (renumbered numbers next e) (without N (numbers_after (Some next) (step w e).0 numbers) (next_after (step w e).0 next) es (play (step w e).1 es).0) others rest in
    subst (λ (xs : List Event). IsFollowed N (play (step w e).1 es).1 (play u xs).1) parts.4
    (later (numbers_after (Some next) (step w e).0 numbers) (next_after (step w e).0 next) (step u parts.0).1 parts.1 (step_follows N numbers next w u e parts.0 h at parts.2 fit) parts.3)

run_follows : (N : ℕ) (es : List Event) (numbers : Numbers) (next : ℕ) (w u : World) (others : List Event) → Follows N numbers next w u
    → without N numbers next es (play w es).0 ≡ Some others → All IsNotFull (play w es).0 → IsFollowed N (play w es).1 (play u others).1
run_follows N [] numbers next w u others h is fits = subst (λ (xs : List Event). IsFollowed N w (play u xs).1) (same_Some _ _ is) (numbers, next, h)
run_follows N (e ∷ es) numbers next w u others h is fits =
    event_follows N e es numbers next w u others h (is_beyond N e) refl is (All-head IsNotFull (step w e).0 (play (step w e).1 es).0 fits)
    (λ m n x os k left. run_follows N es m n (step w e).1 x os k left (All-tail IsNotFull (step w e).0 (play (step w e).1 es).0 fits))

pub opening_follows : (room voters observers agents : ℕ) (sheet : Sheet) (issuer : Issuer) → Follows voters [] 0 (opening_with room voters observers agents sheet issuer) (opening_with room voters 0 agents sheet issuer)
opening_follows room voters observers agents sheet issuer = record {
  sheet = refl;
  issuer = refl;
  agents = refl;
  journals = refl;
  room = refl;
  votes = refl;
  other_votes = refl;
  nodes = λ i low. get_copy (voters + 0) (wake new_kept) i (omega (arith, low)) ∙ sym (get_copy (voters + observers) (wake new_kept) i (omega (arith, low)));
  each_packet = refl;
  packets = λ k j e. absurd (none-some _ e);
  rising = λ k l j m less e f. absurd (none-some _ e);
  left_out = λ k e. absurd (none-some _ e);
  no_other = λ j low. absurd (omega (arith, low));
  sent = refl;
  fewer = omega arith;
}

-- what the voters of a group do without its observers
pub observers_change_nothing : (room voters observers agents : ℕ) (sheet : Sheet) (issuer : Issuer) (events others : List Event)
    → without voters [] 0 events (play (opening_with room voters observers agents sheet issuer) events).0 ≡ Some others
    → All (λ r. r ≡ Refused WorldFull → ⊥) (play (opening_with room voters observers agents sheet issuer) events).0
    → IsFollowed voters (play (opening_with room voters observers agents sheet issuer) events).1 (play (opening_with room voters 0 agents sheet issuer) others).1
observers_change_nothing room voters observers agents sheet issuer events others is fits =
    run_follows voters events [] 0 (opening_with room voters observers agents sheet issuer) (opening_with room voters 0 agents sheet issuer) others (opening_follows room voters observers agents sheet issuer) is fits

-- A node acts by itself.
use Rattle.std.proofs.Common.{◌≡◌, ℕ, ◌+◌, ◌<◌, Bool, true, false, List, [], ◌∷◌, length, refl, sym, subst, ◌∙◌, Option, Some, None, Result, Ok, Err, unwrap_or, nat_lt}
use Rattle.std.specs.Prelude.{slice_get, ok_or}
use Rattle.std.proofs.lemmas.Bool.{cond-true, lt-ltb, eqb-true}
use Rattle.std.proofs.Math.Seq.{drop-append_seam, drop-length, take-append_seam, take-length}
use Rattle.metering_model.specs.FirstFailure.{◌>>=◌, holds_or}
use Rattle.metering_model.specs.Limits.{most_periods, most_rounds}
use Rattle.metering_model.specs.declared.Refusal.{Refusal}
use Rattle.metering_model.specs.declared.Refusal.TheVariants.{NoPacket, NoNode, NotClosed, Observer, AllClosed, NoBallot, NotKept, WorldFull}
use Rattle.metering_model.specs.BatchReading.{is_same}
use Rattle.metering_model.specs.Sheet.{Sheet, Issuer}
use Rattle.metering_model.specs.Holding.{Holding, up_to}
use Rattle.metering_model.specs.Ballot.{ballot_of}
use Rattle.metering_model.specs.KeptText.{KeptAmong, kept_text}
use Rattle.metering_model.specs.World.{World, Node, Packet, Prepare, Event, Journal, Deliver, Start, Restart, Export, Keep, Revive, Reply, Delivered, Started, Restarted, Exported, KeptText, Refused, Snapshot, voter_count, votes, current_period, wake, with_node_at, with_packet, next_packet}
use Rattle.metering_model.specs.Deliveries.{Handled, handled}
use Rattle.metering_model.specs.Step.{Outcome, after_delivery, started_node, snapshot, unless_missing, first_missing, cut_before, kept_of, kept_now, or_refused, step}
use Rattle.group_laws.specs.Alone.{unnumbered}
use Rattle.group_laws.specs.OneNode.{AgreeAtNode, SameStepAt, ChangesOnlyNode, is_input_at, is_at}
use Rattle.group_laws.proofs.Steps.{length-slice_set}
use Rattle.group_laws.proofs.WithoutObservers.{set_alike, set_other}

-- what becomes of a world whose node sends a packet, or none
abbrev done : World → ℕ → Node → Option Packet → (Option ℕ → Reply) → Result Outcome Refusal
done w i n None reply = Ok (reply None, with_node_at i n w)
done w i n (Some p) reply = next_packet w >>= λ k. Ok (reply (Some k), with_packet p (with_node_at i n w))

-- the replies that a node gives, in which a number is left out
abbrev Numbers : (Option ℕ → Reply) → Type 0
Numbers reply = (k l : ℕ) → unnumbered (reply (Some k)) ≡ unnumbered (reply (Some l))

module _ (i : ℕ) (w : World) (journals : Holding) (space : ℕ) (packets : List Packet) (nodes : List Node) where
  -- the other world, which differs in what a node doesn't see
  abbrev other : World
  other = record w { journals = journals; room = space; packets = packets; nodes = nodes }

  abbrev Alike : Outcome → Outcome → Type 0
  Alike = SameStepAt i w other

  stays : (r : Reply) → slice_get nodes i ≡ slice_get w.nodes i → Alike (r, w) (r, other)
  stays r same = record { reply = refl; node = same; sent = drop-length packets ∙ sym (drop-length w.packets) }

  refused : (e : Refusal) → slice_get nodes i ≡ slice_get w.nodes i → Alike (or_refused w (Err e)) (or_refused other (Err e))
  refused e same = stays (Refused e) same

  does : (n : Node) (sends : Option Packet) (reply : Option ℕ → Reply) → Numbers reply → length w.packets < w.room → length packets < space
      → slice_get nodes i ≡ slice_get w.nodes i → Alike (or_refused w (done w i n sends reply)) (or_refused other (done other i n sends reply))
  does n None reply numbers room room_too same = record {
    reply = refl;
    node = set_alike w.nodes nodes i i n same;
    sent = drop-length packets ∙ sym (drop-length w.packets);
  }
  does n (Some p) reply numbers room room_too same =
      let here = cond-true (nat_lt (length w.packets) w.room) (Ok (length w.packets)) (Err WorldFull) (lt-ltb (length w.packets) w.room room) in
      let there = cond-true (nat_lt (length packets) space) (Ok (length packets)) (Err WorldFull) (lt-ltb (length packets) space room_too) in
      let in_w : Outcome = (reply (Some (length w.packets)), with_packet p (with_node_at i n w)) in
      let in_other : Outcome = (reply (Some (length packets)), with_packet p (with_node_at i n other)) in
      let sent : Alike in_w in_other = record {
        reply = numbers (length packets) (length w.packets);
        node = set_alike w.nodes nodes i i n same;
        sent = drop-append_seam packets (p ∷ []) ∙ sym (drop-append_seam w.packets (p ∷ []));
      } in
      subst (λ r. Alike (or_refused w (r >>= λ k. Ok (reply (Some k), with_packet p (with_node_at i n w)))) (or_refused other (done other i n (Some p) reply))) (sym here)
      (subst (λ r. Alike in_w (or_refused other (r >>= λ k. Ok (reply (Some k), with_packet p (with_node_at i n other))))) (sym there) sent)

  delivers : (h : Handled) → length w.packets < w.room → length packets < space → slice_get nodes i ≡ slice_get w.nodes i
      → Alike (or_refused w (after_delivery w i h)) (or_refused other (after_delivery other i h))
  delivers h room room_too same = by_sent h.sends
    where
      by_sent : (s : Option Packet) → Alike (or_refused w (after_delivery w i (record h { sends = s }))) (or_refused other (after_delivery other i (record h { sends = s })))
      by_sent None = does h.node None (λ s. Delivered s h.learns) (λ k l. refl) room room_too same
      by_sent (Some p) = does h.node (Some p) (λ s. Delivered s h.learns) (λ k l. refl) room room_too same

  -- ---- a delivery

  delivered_to : (p : Packet) (nodes_at : Option Node) (h : slice_get w.nodes i ≡ nodes_at) → length w.packets < w.room → length packets < space → slice_get nodes i ≡ slice_get w.nodes i
      → Alike (or_refused w (ok_or nodes_at NoNode >>= λ n. after_delivery w i (handled w i n p))) (or_refused other (ok_or nodes_at NoNode >>= λ n. after_delivery other i (handled other i n p)))
  delivered_to p None h room room_too same = refused NoNode same
  delivered_to p (Some n) h room room_too same = delivers (handled w i n p) room room_too same

  delivered_at : (k l : ℕ) (sent : Option Packet) → length w.packets < w.room → length packets < space → slice_get nodes i ≡ slice_get w.nodes i
      → Alike (or_refused w (ok_or sent NoPacket >>= λ p. ok_or (slice_get w.nodes i) NoNode >>= λ n. after_delivery w i (handled w i n p)))
      (or_refused other (ok_or sent NoPacket >>= λ p. ok_or (slice_get w.nodes i) NoNode >>= λ n. after_delivery other i (handled other i n p)))
  delivered_at k l None room room_too same = refused NoPacket same
  delivered_at k l (Some p) room room_too same = delivered_to p (slice_get w.nodes i) refl room room_too same

  delivery : (k l : ℕ) → slice_get packets l ≡ slice_get w.packets k → length w.packets < w.room → length packets < space → slice_get nodes i ≡ slice_get w.nodes i
      → Alike (step w (Deliver k i)) (step other (Deliver l i))
  delivery k l sent room room_too same =
      subst (λ s. Alike (step w (Deliver k i)) (or_refused other (ok_or s NoPacket >>= λ p. ok_or (slice_get nodes i) NoNode >>= λ n. after_delivery other i (handled other i n p)))) (sym sent)
      (subst (λ m. Alike (step w (Deliver k i)) (or_refused other (ok_or (slice_get w.packets k) NoPacket >>= λ p. ok_or m NoNode >>= λ n. after_delivery other i (handled other i n p)))) (sym same)
      (delivered_at k l (slice_get w.packets k) room room_too same))

  -- ---- what a node is asked

  -- a step that begins with the node, and is alike where that is the same
  from_node : (f g : Node → Result Outcome Refusal) → slice_get nodes i ≡ slice_get w.nodes i → ((n : Node) → Alike (or_refused w (f n)) (or_refused other (g n)))
      → Alike (or_refused w (ok_or (slice_get w.nodes i) NoNode >>= f)) (or_refused other (ok_or (slice_get nodes i) NoNode >>= g))
  from_node f g same alike =
      subst (λ m. Alike (or_refused w (ok_or (slice_get w.nodes i) NoNode >>= f)) (or_refused other (ok_or m NoNode >>= g))) (sym same) (by_node (slice_get w.nodes i))
    where
      by_node : (m : Option Node) → Alike (or_refused w (ok_or m NoNode >>= f)) (or_refused other (ok_or m NoNode >>= g))
      by_node None = refused NoNode same
      by_node (Some n) = alike n

  abbrev begun : World → Node → Result Outcome Refusal
  begun v n = done v i (started_node (voter_count w) (ballot_of (n.kept.round + 1) i (voter_count w)) n)
      (Some (Prepare (current_period n) (ballot_of (n.kept.round + 1) i (voter_count w)))) (λ s. Started (ballot_of (n.kept.round + 1) i (voter_count w)) (unwrap_or s 0))

  starts : (n : Node) (voting unclosed left : Bool) → length w.packets < w.room → length packets < space → slice_get nodes i ≡ slice_get w.nodes i
      → Alike (or_refused w (holds_or voting Observer >>= λ _. holds_or unclosed AllClosed >>= λ _. holds_or left NoBallot >>= λ _. begun w n))
      (or_refused other (holds_or voting Observer >>= λ _. holds_or unclosed AllClosed >>= λ _. holds_or left NoBallot >>= λ _. begun other n))
  starts n false unclosed left room room_too same = refused Observer same
  starts n true false left room room_too same = refused AllClosed same
  starts n true true false room room_too same = refused NoBallot same
  starts n true true true room room_too same = does _ (Some (Prepare (current_period n) (ballot_of (n.kept.round + 1) i (voter_count w)))) (λ s. Started (ballot_of (n.kept.round + 1) i (voter_count w)) (unwrap_or s 0)) (λ k l. refl) room room_too same

  -- what a node answers of a period
  abbrev snapshot_of : ℕ → Node → Result Snapshot Refusal
  snapshot_of p n = do
    to ← ok_or (slice_get n.kept.learned p) (NotClosed (current_period n))
    _ ← unless_missing (first_missing n.kept.holding to)
    Ok (record { period = p; from = cut_before w.agents n.kept.learned p; to = to; batches = up_to to n.kept.holding; sheet = w.sheet; issuer = w.issuer })

  exports : (s : Result Snapshot Refusal) → slice_get nodes i ≡ slice_get w.nodes i → Alike (or_refused w (s >>= λ x. Ok (Exported x, w))) (or_refused other (s >>= λ x. Ok (Exported x, other)))
  exports (Err e) same = refused e same
  exports (Ok x) same = stays (Exported x) same

  revives : (n : Node) (offer : Result KeptAmong Refusal) → length w.packets < w.room → length packets < space → slice_get nodes i ≡ slice_get w.nodes i
      → Alike (or_refused w (offer >>= λ k. holds_or (is_same (kept_text k) (kept_text (kept_now w n))) NotKept >>= λ _. Ok (Restarted, with_node_at i (wake k.kept) w)))
      (or_refused other (offer >>= λ k. holds_or (is_same (kept_text k) (kept_text (kept_now w n))) NotKept >>= λ _. Ok (Restarted, with_node_at i (wake k.kept) other)))
  revives n (Err e) room room_too same = refused e same
  revives n (Ok k) room room_too same = by_test (is_same (kept_text k) (kept_text (kept_now w n)))
    where
      by_test : (t : Bool) → Alike (or_refused w (holds_or t NotKept >>= λ _. Ok (Restarted, with_node_at i (wake k.kept) w))) (or_refused other (holds_or t NotKept >>= λ _. Ok (Restarted, with_node_at i (wake k.kept) other)))
      by_test false = refused NotKept same
      by_test true = does (wake k.kept) None (λ s. Restarted) (λ k l. refl) room room_too same

  asked : (e : Event) → is_input_at i e ≡ true → length w.packets < w.room → length packets < space → slice_get nodes i ≡ slice_get w.nodes i → Alike (step w e) (step other e)
  asked (Journal offer) at room room_too same = absurd (cc)
  asked (Deliver packet node) at room room_too same = absurd (cc)
  asked (Start node) at room room_too same =
      subst (λ j. Alike (step w (Start j)) (step other (Start j))) (sym (eqb-true node i at))
      (from_node _ _ same (λ n. starts n (votes w i) (nat_lt (current_period n) most_periods) (nat_lt n.kept.round most_rounds) room room_too same))
  asked (Restart node) at room room_too same =
      subst (λ j. Alike (step w (Restart j)) (step other (Restart j))) (sym (eqb-true node i at))
      (from_node _ _ same (λ n. does (wake n.kept) None (λ s. Restarted) (λ k l. refl) room room_too same))
  asked (Export node period) at room room_too same =
      subst (λ j. Alike (step w (Export j period)) (step other (Export j period))) (sym (eqb-true node i at)) (exported period)
    where
      exported : (p : ℕ) → Alike (step w (Export i p)) (step other (Export i p))
      exported p =
          subst (λ m. Alike (step w (Export i p)) (or_refused other ((ok_or m NoNode >>= snapshot_of p) >>= λ x. Ok (Exported x, other)))) (sym same) (exports (snapshot w i p) same)
  asked (Keep node) at room room_too same =
      subst (λ j. Alike (step w (Keep j)) (step other (Keep j))) (sym (eqb-true node i at))
      (from_node _ _ same (λ n. stays (KeptText (kept_text (kept_now w n))) same))
  asked (Revive node offer) at room room_too same =
      subst (λ j. Alike (step w (Revive j offer)) (step other (Revive j offer))) (sym (eqb-true node i at))
      (from_node _ _ same (λ n. revives n (kept_of offer) room room_too same))

-- ---- any two worlds

-- the other world is this one, but for what a node doesn't see
as_other : (i : ℕ) (w v : World) → AgreeAtNode i w v → v ≡ other i w v.journals v.room v.packets v.nodes
as_other i w v h = by_parts v.sheet v.issuer v.agents (voter_count v) h.sheet h.issuer h.agents h.voters
  where
    by_parts : (sheet : Sheet) (issuer : Issuer) (agents voters : ℕ) → sheet ≡ w.sheet → issuer ≡ w.issuer → agents ≡ w.agents → voters ≡ voter_count w
        → record { sheet = sheet; issuer = issuer; agents = agents; journals = v.journals; room = v.room; packets = v.packets; voters = voters; nodes = v.nodes } ≡ other i w v.journals v.room v.packets v.nodes
    by_parts sheet issuer agents voters a b c d = cc

pub delivered_alike : (w v : World) (i k l : ℕ) → AgreeAtNode i w v → slice_get v.packets l ≡ slice_get w.packets k → SameStepAt i w v (step w (Deliver k i)) (step v (Deliver l i))
delivered_alike w v i k l h sent =
    subst (λ x. SameStepAt i w x (step w (Deliver k i)) (step x (Deliver l i))) (sym (as_other i w v h)) (delivery i w v.journals v.room v.packets v.nodes k l sent h.room h.room_too h.node)

pub asked_alike : (w v : World) (i : ℕ) (e : Event) → AgreeAtNode i w v → is_input_at i e ≡ true → SameStepAt i w v (step w e) (step v e)
asked_alike w v i e h at =
    subst (λ x. SameStepAt i w x (step w e) (step x e)) (sym (as_other i w v h)) (asked i w v.journals v.room v.packets v.nodes e at h.room h.room_too h.node)

-- ---- what stays

module _ (i : ℕ) (w : World) where
  abbrev Just : Outcome → Type 0
  Just = ChangesOnlyNode i w

  just_stays : (r : Reply) → Just (r, w)
  just_stays r = record { sheet = refl; issuer = refl; agents = refl; room = refl; voters = refl; journals = refl; count = refl; packets = take-length w.packets; others = λ j apart. refl }

  just_then : {A : Type 0} (x : Result A Refusal) (f : A → Result Outcome Refusal) → ((a : A) → Just (or_refused w (f a))) → Just (or_refused w (x >>= f))
  just_then (Err e) f each = just_stays (Refused e)
  just_then (Ok a) f each = each a

  just_does : (n : Node) (sends : Option Packet) (reply : Option ℕ → Reply) → Just (or_refused w (done w i n sends reply))
  just_does n None reply = record { sheet = refl; issuer = refl; agents = refl; room = refl; voters = refl; journals = refl; count = length-slice_set w.nodes i n; packets = take-length w.packets; others = λ j apart. set_other w.nodes i j n apart }
  just_does n (Some p) reply = just_then (next_packet w) (λ k. Ok (reply (Some k), with_packet p (with_node_at i n w))) (λ k.
      record { sheet = refl; issuer = refl; agents = refl; room = refl; voters = refl; journals = refl; count = length-slice_set w.nodes i n; packets = take-append_seam w.packets (p ∷ []); others = λ j apart. set_other w.nodes i j n apart })

  just_delivers : (h : Handled) → Just (or_refused w (after_delivery w i h))
  just_delivers h = by_sent h.sends
    where
      by_sent : (s : Option Packet) → Just (or_refused w (after_delivery w i (record h { sends = s })))
      by_sent None = just_does h.node None (λ s. Delivered s h.learns)
      by_sent (Some p) = just_does h.node (Some p) (λ s. Delivered s h.learns)

  -- what comes of an event at the node, by the node that it finds
  just_at : (f : Node → Result Outcome Refusal) → ((n : Node) → Just (or_refused w (f n))) → Just (or_refused w (ok_or (slice_get w.nodes i) NoNode >>= f))
  just_at f each = just_then (ok_or (slice_get w.nodes i) NoNode) f each

  just_starts : (n : Node) → Just (or_refused w (holds_or (votes w i) Observer >>= λ _. holds_or (nat_lt (current_period n) most_periods) AllClosed >>= λ _.
      holds_or (nat_lt n.kept.round most_rounds) NoBallot >>= λ _. begun i w [] 0 [] [] w n))
  just_starts n =
      just_then (holds_or (votes w i) Observer) _ (λ _. just_then (holds_or (nat_lt (current_period n) most_periods) AllClosed) _ (λ _.
      just_then (holds_or (nat_lt n.kept.round most_rounds) NoBallot) _ (λ _.
      just_does (started_node (voter_count w) (ballot_of (n.kept.round + 1) i (voter_count w)) n) (Some (Prepare (current_period n) (ballot_of (n.kept.round + 1) i (voter_count w))))
      (λ s. Started (ballot_of (n.kept.round + 1) i (voter_count w)) (unwrap_or s 0)))))

pub changes_just : (w : World) (i : ℕ) (e : Event) → is_at i e ≡ true → ChangesOnlyNode i w (step w e)
changes_just w i (Journal offer) at = absurd (cc)
changes_just w i (Deliver packet node) at =
    subst (λ j. ChangesOnlyNode i w (step w (Deliver packet j))) (sym (eqb-true node i at))
    (just_then i w (ok_or (slice_get w.packets packet) NoPacket) (λ p. ok_or (slice_get w.nodes i) NoNode >>= λ n. after_delivery w i (handled w i n p)) (λ p.
    just_at i w (λ n. after_delivery w i (handled w i n p)) (λ n. just_delivers i w (handled w i n p))))
changes_just w i (Start node) at = subst (λ j. ChangesOnlyNode i w (step w (Start j))) (sym (eqb-true node i at)) (just_at i w _ (just_starts i w))
changes_just w i (Restart node) at =
    subst (λ j. ChangesOnlyNode i w (step w (Restart j))) (sym (eqb-true node i at)) (just_at i w _ (λ n. just_does i w (wake n.kept) None (λ s. Restarted)))
changes_just w i (Export node period) at =
    subst (λ j. ChangesOnlyNode i w (step w (Export j period))) (sym (eqb-true node i at)) (just_then i w (snapshot w i period) (λ x. Ok (Exported x, w)) (λ x. just_stays i w (Exported x)))
changes_just w i (Keep node) at =
    subst (λ j. ChangesOnlyNode i w (step w (Keep j))) (sym (eqb-true node i at)) (just_at i w _ (λ n. just_stays i w (KeptText (kept_text (kept_now w n)))))
changes_just w i (Revive node offer) at =
    subst (λ j. ChangesOnlyNode i w (step w (Revive j offer))) (sym (eqb-true node i at))
    (just_at i w _ (λ n. just_then i w (kept_of offer) _ (λ k. just_then i w (holds_or (is_same (kept_text k) (kept_text (kept_now w n))) NotKept) _ (λ _. just_does i w (wake k.kept) None (λ s. Restarted)))))

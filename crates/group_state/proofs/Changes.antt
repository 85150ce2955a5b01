-- What the parts of a world say of it, and of the world that an event leaves.
use Rattle.std.proofs.Common.{◌≡◌, ℕ, zero, suc, ◌<◌, ◌≤◌, Bool, true, false, List, [], ◌∷◌, ◌++◌, length, get_or, map, refl, sym, subst, ap, ◌∙◌, arith, Option, Some, None, Result, Ok, Err, nat_lt, nat_le, replicate}
use Rattle.std.specs.Prelude.{slice_get, slice_set, ◌==◌, All}
use Rattle.std.specs.Option.{is_some, option_map}
use Rattle.std.specs.List.{cons_option}
use Rattle.std.proofs.lemmas.Bool.{lt-ltb, ltb-true, eq-eqb, eqb-true, le-leb}
use Rattle.std.proofs.lemmas.List.{map-set, append-nil}
use Rattle.std.proofs.lemmas.Option.{slice_get-get_or, slice_get_within}
use Rattle.metering_model.specs.Batch.{Batch}
use Rattle.metering_model.specs.BatchReading.{batch_in}
use Rattle.metering_model.specs.Holding.{placed, put}
use Rattle.metering_model.specs.JournalRules.{next_seq, first_broken}
use Rattle.metering_model.specs.declared.BrokenRule.{BrokenRule}
use Rattle.metering_model.specs.declared.Refusal.{Refusal}
use Rattle.metering_model.specs.declared.Refusal.TheVariants.{WorldFull, WrongSeq}
use Rattle.metering_model.specs.Limits.{most_packets}
use Rattle.metering_model.specs.World.{World, Node, Packet, Good, Journal, Deliver, Start, Restart, Restarted, Reply, Delivered, new_kept, wake, current_period, voter_count}
use Rattle.metering_model.specs.Deliveries.{Handled, handled}
use Rattle.metering_model.specs.Step.{Outcome, after_delivery, first_missing, on_batch, on_delivery, or_refused, started_node, step, unless_broken}
use Rattle.group_node.specs.Nodes.{NodeAmong}
use Rattle.group_node.specs.Handling.{Answers}
use Rattle.group_node.specs.Packets.{IsPacketAmong}
use Rattle.group_node.proofs.Among.{packet_of_run}
use Rattle.group_laws.specs.EveryRun.{IsNode}
use Rattle.metering_model.specs.Cut.{Cut}
use Rattle.group_state.specs.Reached.{IsReached}
use Rattle.group_state.specs.Inner.Members.{IsMember, AreMembers, Begins, next_ballot}
use Rattle.group_state.specs.Inner.Allowed.{MayJournal, MayDeliver, HandsOver, MayBegin, MayTake}
use Rattle.group_state.proofs.Lookups.{found_at}
use Rattle.group_state.proofs.Outcomes.{wrong_seq, no_room_for_batch, journals_batch, delivers, delivers_and_sends, starts, restarts}
use Rattle.group_laws.proofs.Limits.{at_entry}
use Rattle.group_state.proofs.Parts.{node_here, learned_size, grows_from_before, rules_of_export}
use Rattle.group_state.proofs.Reaching.{limits_here, still_open}

abbrev pub nodes_in : List NodeAmong → List Node
nodes_in ns = map (λ n. n.node) ns

-- the node that stands at a place of the list is the world's
pub node_found : (w : World) (ns : List NodeAmong) (i : ℕ) (n : NodeAmong) → nodes_in ns ≡ w.nodes → i < length ns → n ≡ get_or ns i n → slice_get w.nodes i ≡ Some n.node
node_found w ns i n same low e = ap (λ (xs : List Node). slice_get xs i) (sym same) ∙ found_at (λ m. m.node) ns i n low e

pub member_at : (voters agents i : ℕ) (ns : List NodeAmong) (n : NodeAmong) → All (IsMember voters agents) ns → i < length ns → n ≡ get_or ns i n → IsMember voters agents n
member_at voters agents i ns n all low e = at_entry (IsMember voters agents) ns i n all (slice_get-get_or ns i n low ∙ ap Some (sym e))

-- and it is a member of the world's group
pub member_here : (w : World) (voters agents i : ℕ) (ns : List NodeAmong) (n : NodeAmong) → voters ≡ voter_count w → agents ≡ w.agents → AreMembers voters agents ns → i < length ns → n ≡ get_or ns i n
    → IsMember (voter_count w) w.agents n
member_here w voters agents i ns n votes stores are low e =
    let is : IsMember voters agents n = member_at voters agents i ns n are.each low e in
    record { votes = is.votes ∙ votes; stores = is.stores ∙ stores }

-- ---- journaling

module _ (w : World) (b : Batch) (agent seq wanted : ℕ) (of : agent ≡ b.agent) (at : seq ≡ b.seq) (low : agent ≤ w.agents) (next : wanted ≡ next_seq w.journals agent) where
  is_of : nat_le b.agent w.agents ≡ true
  is_of = le-leb _ _ (omega (arith, of, low))

  next_of : wanted ≡ next_seq w.journals b.agent
  next_of = next ∙ ap (next_seq w.journals) of

  pub wrong_seq_told : (seq ≡ wanted → ⊥) → on_batch w b ≡ Err (WrongSeq wanted)
  wrong_seq_told other = wrong_seq w b is_of (other_seq (b.seq == next_seq w.journals b.agent) refl) ∙ ap (λ k. Err (WrongSeq k)) (sym next_of)
    where
      other_seq : (t : Bool) → (b.seq == next_seq w.journals b.agent) ≡ t → t ≡ false
      other_seq true e = absurd (other (at ∙ (eqb-true _ _ e ∙ sym next_of)))
      other_seq false e = refl

  module _ (same : seq ≡ wanted) where
    is_next : (b.seq == next_seq w.journals b.agent) ≡ true
    is_next = eq-eqb _ _ (sym at ∙ (same ∙ next_of))

    pub rule_told : (rule : BrokenRule) (refusal : Refusal) → first_broken w.sheet (put w.journals b) (placed b) ≡ Some rule → unless_broken (Some rule) ≡ Err refusal → on_batch w b ≡ Err refusal
    rule_told rule refusal e f = rw (is_of, is_next, e, f) refl

    module _ (none : first_broken w.sheet (put w.journals b) (placed b) ≡ None) where
      pub full_told : nat_lt (length w.packets) w.room ≡ false → on_batch w b ≡ Err WorldFull
      full_told e = no_room_for_batch w b is_of is_next none e

      pub may_journal : nat_lt (length w.packets) w.room ≡ true → MayJournal w b
      may_journal e = record { agent = omega (arith, of, low); room = ltb-true _ _ e; outcome = journals_batch w b is_of is_next none e }

-- bytes that are a batch are journaled as it is
pub good_told : (w : World) (text : List ℕ) (b : Batch) (r : Result Outcome Refusal) → batch_in text ≡ Ok b → on_batch w b ≡ r → or_refused w r ≡ step w (Journal (Good text))
good_told w text b r e f = sym (rw (e, f) refl)

-- ---- deliveries

module _ (w : World) (k i : ℕ) (q : Packet) (n : Node) (sent : slice_get w.packets k ≡ Some q) (found : slice_get w.nodes i ≡ Some n) where
  pub may_in_silence : is_some (handled w i n q).sends ≡ false → MayDeliver w k i
  may_in_silence none = record {
    packet = slice_get_within w.packets k q sent;
    node = slice_get_within w.nodes i n found;
    room = λ m p here there some. absurd (both (subst (λ (o : Node × Packet). is_some (handled w i o.0 o.1).sends ≡ false) (same_two m p (sym found ∙ here) (sym sent ∙ there)) none) some);
  }
    where
      both : {b : Bool} → b ≡ false → b ≡ true → ⊥
      both {b} e f = absurd (cc)

      same_two : (m : Node) (p : Packet) → ◌≡◌ {A = Option Node} (Some n) (Some m) → ◌≡◌ {A = Option Packet} (Some q) (Some p) → ◌≡◌ {A = Node × Packet} (n, q) (m, p)
      same_two m p e f = cc

  pub full_for_answer : is_some (handled w i n q).sends ≡ true → nat_lt (length w.packets) w.room ≡ false → on_delivery w k i ≡ Err WorldFull
  full_for_answer some full = rw (sent, found) (by_sends (handled w i n q) some)
    where
      by_option : (h : Handled) (o : Option Packet) → is_some o ≡ true → h.sends ≡ o → after_delivery w i h ≡ Err WorldFull
      by_option h None s e = absurd (cc)
      by_option h (Some p) s e = rw (e, full) refl

      by_sends : (h : Handled) → is_some h.sends ≡ true → after_delivery w i h ≡ Err WorldFull
      by_sends h s = by_option h h.sends s refl

-- the node that may answer is the one at the place
pub sends_here : (w : World) (i : ℕ) (q : Packet) (n : NodeAmong) (answers : Bool) → n.voters ≡ voter_count w → Answers i q n answers → is_some (handled w i n.node q).sends ≡ answers
sends_here w i q n answers votes h = h.sends w (sym votes)

-- what was handed over is what the step does
pub delivered : (w : World) (voters agents base k i at : ℕ) (ns : List NodeAmong) (after : List Packet) (n m : NodeAmong) (r : Reply)
    → nodes_in ns ≡ w.nodes → w.sheet.base ≡ base → voters ≡ voter_count w → agents ≡ w.agents → AreMembers voters agents ns → at ≡ i → i < length ns → n ≡ get_or ns i n → MayDeliver w k i
    → HandsOver base i k w.packets after n m r
    → ◌≡◌ {A = Outcome} (r, record w { packets = after; nodes = nodes_in (slice_set ns at m) }) (step w (Deliver k i))
delivered w voters agents base k i at ns after n m r same month votes stores are place low e may h =
    rw (h.tells, h.packets, place, map-set (λ (x : NodeAmong). x.node) ns i m, same) (by_sends h.sends refl)
  where
    found : slice_get w.nodes i ≡ Some n.node
    found = node_found w ns i n same low e

    member : IsMember (voter_count w) w.agents n
    member = member_here w voters agents i ns n votes stores are low e

    does : handled w i n.node h.packet ≡ record { node = m.node; sends = h.sends; learns = h.learns }
    does = h.does.handles w month (sym member.stores) (sym member.votes)

    by_sends : (o : Option Packet) → h.sends ≡ o
        → ◌≡◌ {A = Outcome} (Delivered (option_map (λ q. length w.packets) h.sends) h.learns, record w { packets = w.packets ++ cons_option h.sends []; nodes = slice_set w.nodes i m.node }) (step w (Deliver k i))
    by_sends None s = rw (s, append-nil) (sym (ap (or_refused w) (delivers w k i h.packet n.node m.node h.was found h.learns (does ∙ ap (λ o. record { node = m.node; sends = o; learns = h.learns }) s))))
    by_sends (Some q) s =
        let room : length w.packets < w.room = may.room n.node h.packet found h.was (ap (λ (x : Handled). is_some x.sends) does ∙ ap is_some s) in
        rw s (sym (ap (or_refused w) (delivers_and_sends w k i h.packet n.node m.node h.was found h.learns q (does ∙ ap (λ o. record { node = m.node; sends = o; learns = h.learns }) s) (lt-ltb _ _ room))))

-- ---- starts and restarts

pub begun : (w : World) (i at period : ℕ) (ns : List NodeAmong) (after : List Packet) (n m : NodeAmong) (r : Reply)
    → nodes_in ns ≡ w.nodes → n.voters ≡ voter_count w → at ≡ i → i < length ns → n ≡ get_or ns i n → MayBegin w i period
    → Begins i period w.packets after n m r
    → ◌≡◌ {A = Outcome} (r, record w { packets = after; nodes = nodes_in (slice_set ns at m) }) (step w (Start i))
begun w i at period ns after n m r same votes place low e may h =
    rw (h.tells, h.packets, h.node, place, map-set (λ (x : NodeAmong). x.node) ns i (record { voters = n.voters; agents = n.agents; node = started_node n.voters (next_ballot i n) n.node }), same, votes, ← works.0)
    (sym (ap (or_refused w) (starts w i n.node found (lt-ltb _ _ may.votes) (lt-ltb _ _ (omega (arith, works.0, works.1))) (lt-ltb _ _ works.2) (lt-ltb _ _ may.room))))
  where
    found : slice_get w.nodes i ≡ Some n.node
    found = node_found w ns i n same low e

    works : (current_period n.node ≡ period) × (period < 1_200) × (n.node.kept.round < 10_000)
    works = may.works n.node found

pub restarted : (w : World) (i at : ℕ) (ns : List NodeAmong) (n m : NodeAmong)
    → nodes_in ns ≡ w.nodes → at ≡ i → i < length ns → n ≡ get_or ns i n → m.node ≡ wake n.node.kept
    → ◌≡◌ {A = Outcome} (Restarted, record w { nodes = nodes_in (slice_set ns at m) }) (step w (Restart i))
restarted w i at ns n m same place low e woken =
    rw (place, map-set (λ (x : NodeAmong). x.node) ns i m, same, woken) (sym (ap (or_refused w) (restarts w i n.node (node_found w ns i n same low e))))

-- ---- the opening

pub opening_nodes : (count voters agents : ℕ) → nodes_in (replicate count (record { voters = voters; agents = agents; node = wake new_kept })) ≡ replicate count (wake new_kept)
opening_nodes zero voters agents = refl
opening_nodes (suc count) voters agents = ap (λ xs. wake new_kept ∷ xs) (opening_nodes count voters agents)

-- what a member asks of a packet that was sent
pub among_here : (w : World) (k : ℕ) (q : Packet) (n : NodeAmong) → IsReached w → slice_get w.packets k ≡ Some q → IsMember (voter_count w) w.agents n → IsPacketAmong n.voters n.agents q
among_here w k q n h sent member =
    let open_still = still_open w h in
    let few : voter_count w ≤ 99 = omega (arith, open_still.nodes_to) in
    let among : IsPacketAmong (voter_count w) w.agents q = packet_of_run most_packets (voter_count w) h.observers w.agents w k q few (limits_here w h) sent in
    subst (λ v. IsPacketAmong v n.agents q) (sym member.votes) (subst (λ a. IsPacketAmong (voter_count w) a q) (sym member.stores) among)

-- what an export asks of a node that has every batch up to the cut that it learned
pub may_take : (w : World) (i p : ℕ) (n : NodeAmong) (to : Cut) → IsReached w → IsMember (voter_count w) w.agents n → slice_get w.nodes i ≡ Some n.node
    → slice_get n.node.kept.learned p ≡ Some to → first_missing n.node.kept.holding to ≡ None → MayTake w.sheet w.agents p to n
may_take w i p n to h member found learned none =
    let is : IsNode (voter_count w) w.agents w.journals n.node = node_here w i n.node h found in
    record {
      among = member.stores;
      size = learned_size (voter_count w) w.agents w.journals n.node p to is learned;
      grows = grows_from_before w.agents p n.node.kept.learned to is.growing learned;
      whole = none;
      met = rules_of_export w.sheet n.node.kept.holding w.journals to is.is_holding is.part (limits_here w h).rules (is.whole p to learned none);
    }

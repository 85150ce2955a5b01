-- What a node does by itself is an event of the world, or needs none.
use Rattle.std.proofs.Common.{◌≡◌, ℕ, ◌+◌, ◌<◌, Bool, true, false, List, [], ◌∷◌, ◌++◌, length, refl, sym, ap, subst, ◌∙◌, Option, Some, None, inl, inr, Result, Ok, Err, nat_lt, unwrap_or}
use Rattle.std.specs.Prelude.{slice_get, slice_set, take, ok_or, if◌then◌else◌}
use Rattle.std.specs.List.{Contains}
use Rattle.std.proofs.lemmas.Bool.{and_from, both_ways}
use Rattle.metering_model.specs.FirstFailure.{◌>>=◌, holds_or}
use Rattle.metering_model.specs.Limits.{most_periods, most_rounds}
use Rattle.metering_model.specs.Batch.{Batch}
use Rattle.metering_model.specs.BatchReading.{is_same}
use Rattle.metering_model.specs.Cut.{zero_cut}
use Rattle.metering_model.specs.Holding.{Holding, held}
use Rattle.metering_model.specs.Ballot.{ballot_of}
use Rattle.metering_model.specs.KeptText.{kept_text}
use Rattle.metering_model.specs.declared.Refusal.{Refusal}
use Rattle.metering_model.specs.declared.Refusal.TheVariants.{NoPacket, NoNode, Observer, AllClosed, NoBallot, Missing}
use Rattle.metering_model.specs.World.{World, Kept, Node, Packet, CarriesBatch, Prepare, Promise, Accept, Accepted, Decided, Deliver, Start, Restart, Export, Keep, Reply, Delivered, Started, Restarted, Exported, KeptText, Refused, Snapshot, current_period, wake, with_node_at}
use Rattle.metering_model.specs.Deliveries.{Handled, handled}
use Rattle.metering_model.specs.Step.{Outcome, after_delivery, started_node, kept_now, or_refused, step}
use Rattle.group_laws.specs.EveryRun.{IsNode, IsPacket}
use Rattle.group_laws.proofs.Agreed.{element_of}
use Rattle.group_laws.proofs.EveryRun.{contains_at}
use Rattle.group_laws.proofs.Limits.{at_entry}
use Rattle.group_laws.proofs.Told.{same_itself}
use Rattle.group_laws.proofs.WithoutObservers.{some_at}
use Rattle.process_laws.specs.LocalSteps.{Group, NodeCommand, TakePacket, BeginBallot, ExportPeriod, TellKept, SendBatch, OfModel, Foreign, Unfit, HasBegun, HasExported, KeptIs, HasSent, RefusedFor, Answer, NodeDone}
use Rattle.process_laws.specs.LocalSteps.{saying, refusing, bare_world, is_packet_of, is_of_group, are_growing, is_unbroken, unmoved, after_handling, beginning, snapshot_by, is_fit, exporting, sending_held, node_does, node_goes_on}
use Rattle.process_laws.specs.Histories.{Processes, Act, NodeDoes, NodeGoesOn, with_node_done, by_node, acted, WasSent, IsSentAs, Tells}
use Rattle.process_laws.proofs.CarriedBatches.{WasCarried, at_held}
use Rattle.process_laws.proofs.PacketsOfGroup.{packet_passes}
use Rattle.process_laws.proofs.FitExports.{growing_passes}
use Rattle.process_laws.proofs.Stands.{world_of, limits, carried, unbroken, Stands, ByNone, Comes}
use Rattle.process_laws.proofs.NodeSteps.{get_set, done, stands_sent, does, same_nodes, stays}

delivery_done : (w : World) (i : ℕ) (x : Handled) → after_delivery w i x ≡ done w i x.node x.sends (λ k. Delivered k x.learns)
delivery_done w i x = by_sent x.sends
  where
    by_sent : (o : Option Packet) → after_delivery w i (record x { sends = o }) ≡ done w i x.node o (λ k. Delivered k x.learns)
    by_sent None = refl
    by_sent (Some p) = refl

module _ (g : Group) (room : ℕ) (s : Processes) (journals : Holding) (packets : List Packet) (h : Stands g room s journals packets)
    (i : ℕ) (n : Node) (found : slice_get s.nodes i ≡ Some n) where
  abbrev w : World
  w = world_of g room journals packets s.nodes

  abbrev ComesOf : NodeCommand → NodeDone → Type 0
  ComesOf c d = Comes g room s journals packets (NodeDoes i c) (with_node_done i d s)

  -- what an event at the node comes to, by the node that was found
  at_node : (f : Node → Result Outcome Refusal) → or_refused w (ok_or (slice_get s.nodes i) NoNode >>= f) ≡ or_refused w (f n)
  at_node f = ap (λ o. or_refused w (ok_or o NoNode >>= f)) found

  -- it needs no event, and sends nothing
  none_needed : (a : Act) (x : Answer) → ByNone g room s journals packets a x s → ByNone g room s journals packets a x (record s { nodes = (with_node_done i (unmoved x n) s).after.nodes })
  none_needed a x is = subst (ByNone g room s journals packets a x) (sym (same_nodes g room s journals packets h i a n found s.sent)) is

  -- what is known of the node
  node : IsNode g.voters g.agents journals n
  node = at_entry (IsNode g.voters g.agents journals) s.nodes i n (limits g room w h.reached).each_node found

  -- ---- a packet

  handled_here : (p : Packet) → handled w i n p ≡ handled (bare_world g) i n p
  handled_here (CarriesBatch b) = refl
  handled_here (Prepare period ballot) = refl
  handled_here (Promise from period ballot vote) = refl
  handled_here (Accept period ballot cut) = refl
  handled_here (Accepted from period ballot cut) = refl
  handled_here (Decided period cut) = refl

  delivered : (name : List ℕ) (p : Packet) (k : ℕ) → slice_get packets k ≡ Some p → ComesOf (TakePacket name p) (after_handling (handled (bare_world g) i n p))
  delivered name p k sent =
      does g room s journals packets h i (NodeDoes i (TakePacket name p)) (after_handling x) (Deliver k i) (λ number. Delivered number x.learns)
      (k, sent, refl) (λ v number nodes is. (refl, is))
      (ap (λ o. or_refused w (ok_or o NoPacket >>= λ q. ok_or (slice_get s.nodes i) NoNode >>= λ m. after_delivery w i (handled w i m q))) sent
      ∙ (at_node (λ m. after_delivery w i (handled w i m p))
      ∙ (ap (λ y. or_refused w (after_delivery w i y)) (handled_here p) ∙ ap (or_refused w) (delivery_done w i x))))
    where
      x : Handled
      x = handled (bare_world g) i n p

  passes : (p : Packet) (k : ℕ) → slice_get packets k ≡ Some p → is_packet_of g.voters g.agents p ≡ true
  passes p k sent =
      let kept = limits g room w h.reached in
      packet_passes g.voters g.agents journals p kept.in_range (at_entry (IsPacket g.voters g.agents journals) packets k p kept.each_packet sent)

  takes : (name : List ℕ) (p : Packet) → (is_of_group g name p ≡ true → Contains s.sent p) → ComesOf (TakePacket name p) (node_does g i n (TakePacket name p))
  takes name p was = by_test (is_of_group g name p) refl
    where
      -- what was sent in this world and bears the name of the group is of it
      foreign : is_of_group g name p ≡ false → name ≡ g.name → Contains packets p → ⊥
      foreign other same sent =
          let at = element_of packets p sent in
          let named = subst (λ (x : List ℕ). is_same x g.name ≡ true) (sym same) (same_itself g.name) in
          both_ways (is_of_group g name p) other (and_from (is_same name g.name) (is_packet_of g.voters g.agents p) named (passes p at.0 at.1))

      by_test : (t : Bool) → is_of_group g name p ≡ t
          → ComesOf (TakePacket name p) (if t then after_handling (handled (bare_world g) i n p) else unmoved (refusing Foreign) n)
      by_test false other = λ few.
          inr (none_needed (NodeDoes i (TakePacket name p)) (refusing Foreign) (record { needs_none = (foreign other, refl); nodes = refl; stands = h }))
      by_test true is = let at = element_of packets p ((h.sent p).0 (was is)) in delivered name p at.0 at.1

  -- ---- a ballot

  abbrev ballot : ℕ
  ballot = ballot_of (n.kept.round + 1) i g.voters

  abbrev asks : Packet
  asks = Prepare (current_period n) ballot

  -- what is asked before a ballot
  abbrev tested : {A : Type 0} → Bool → Bool → Bool → Result A Refusal → Result A Refusal
  tested voting unclosed left rest = holds_or voting Observer >>= λ _. holds_or unclosed AllClosed >>= λ _. holds_or left NoBallot >>= λ _. rest

  abbrev begun_by : Result ℕ Refusal → NodeDone
  begun_by r = elim r [
    | Ok b ↦ record { answer = record { words = HasBegun b; sends = Some (Prepare (current_period n) b) }; node = started_node g.voters b n }
    | Err why ↦ unmoved (refusing (OfModel why)) n
  ]

  abbrev started : Option ℕ → Reply
  started k = Started ballot (unwrap_or k 0)

  tells_begun : (v : World) (k : Option ℕ) → v.nodes ≡ slice_set s.nodes i (started_node g.voters ballot n) → IsSentAs v k (Some asks)
      → Tells v (NodeDoes i BeginBallot) (started k) (record { words = HasBegun ballot; sends = Some asks })
  tells_begun v None nodes is = absurd is
  tells_begun v (Some k) nodes is = (refl, is)

  refuses : (why : Refusal) → step w (Start i) ≡ (Refused why, w) → ComesOf BeginBallot (unmoved (refusing (OfModel why)) n)
  refuses why is = stays g room s journals packets h i (NodeDoes i BeginBallot) n found (RefusedFor (OfModel why)) (Start i) (Refused why) refl refl is

  begins : ComesOf BeginBallot (beginning g i n)
  begins = by_tests (nat_lt i g.voters) (nat_lt (current_period n) most_periods) (nat_lt n.kept.round most_rounds) (at_node _)
    where
      by_tests : (voting unclosed left : Bool) → step w (Start i) ≡ or_refused w (tested voting unclosed left (done w i (started_node g.voters ballot n) (Some asks) started))
          → ComesOf BeginBallot (begun_by (tested voting unclosed left (Ok ballot)))
      by_tests false unclosed left is = refuses Observer is
      by_tests true false left is = refuses AllClosed is
      by_tests true true false is = refuses NoBallot is
      by_tests true true true is = does g room s journals packets h i (NodeDoes i BeginBallot) (begun_by (Ok ballot)) (Start i) started refl tells_begun is

  -- ---- a period

  exports : (p : ℕ) → ComesOf (ExportPeriod p) (unmoved (exporting g n p) n)
  exports p = by_snapshot (snapshot_by g n p) (ap (λ o. or_refused w ((ok_or o NoNode >>= λ m. snapshot_by g m p) >>= λ x. Ok (Exported x, w))) found)
    where
      by_snapshot : (r : Result Snapshot Refusal) → step w (Export i p) ≡ or_refused w (r >>= λ x. Ok (Exported x, w))
          → ComesOf (ExportPeriod p) (unmoved (elim r [
            | Ok x ↦ if is_fit g n x then saying (HasExported x) else refusing Unfit
            | Err why ↦ refusing (OfModel why)
          ]) n)
      by_snapshot (Err why) is = stays g room s journals packets h i (NodeDoes i (ExportPeriod p)) n found (RefusedFor (OfModel why)) (Export i p) (Refused why) refl refl is
      by_snapshot (Ok x) is =
          subst (λ t. ComesOf (ExportPeriod p) (unmoved (if t then saying (HasExported x) else refusing Unfit) n))
          (sym (and_from (are_growing (zero_cut g.agents) (take (x.period + 1) n.kept.learned)) (is_unbroken x)
          (growing_passes n.kept.learned (zero_cut g.agents) (x.period + 1) node.growing)
          (unbroken g room w h.reached (Export i p) x (ap (λ (o : Outcome). o.0) is))))
          (stays g room s journals packets h i (NodeDoes i (ExportPeriod p)) n found (HasExported x) (Export i p) (Exported x) refl refl is)

  -- ---- what it keeps

  keeps : ComesOf TellKept (node_does g i n TellKept)
  keeps =
      stays g room s journals packets h i (NodeDoes i TellKept) n found (KeptIs (kept_text (kept_now w n))) (Keep i) (KeptText (kept_text (kept_now w n))) refl refl
      (at_node (λ m. Ok (KeptText (kept_text (kept_now w m)), w)))

  -- with what it keeps
  goes_on : Comes g room s journals packets (NodeGoesOn i n.kept) (with_node_done i (node_goes_on n.kept) s)
  goes_on =
      does g room s journals packets h i (NodeGoesOn i n.kept) (node_goes_on n.kept) (Restart i) (λ k. Restarted) refl
      (λ v k nodes is. (wake n.kept, subst (λ (ns : List Node). slice_get ns i ≡ Some (wake n.kept)) (sym nodes) (get_set s.nodes i (wake n.kept) n found), refl))
      (at_node (λ m. Ok (Restarted, with_node_at i (wake m.kept) w)))

  sends : (agent seq : ℕ) → ComesOf (SendBatch agent seq) (unmoved (sending_held n.kept.holding agent seq) n)
  sends agent seq = by_held (held n.kept.holding agent seq) refl
    where
      by_held : (o : Option Batch) → held n.kept.holding agent seq ≡ o → ComesOf (SendBatch agent seq) (unmoved (elim o [
        | Some b ↦ record { words = HasSent; sends = Some (CarriesBatch b) }
        | None ↦ refusing (OfModel (Missing agent seq))
      ]) n)
      by_held None is few = inr (none_needed (NodeDoes i (SendBatch agent seq)) (refusing (OfModel (Missing agent seq))) (record { needs_none = (n, found, inr (is, refl)); nodes = refl; stands = h }))
      by_held (Some b) is few =
          let at = at_held (WasCarried packets) journals agent seq b (carried g room w h.reached) (node.part.had agent seq b is) in
          let sent = contains_at packets at.0 (CarriesBatch b) at.1 in
          inr (subst (ByNone g room s journals packets (NodeDoes i (SendBatch agent seq)) (record { words = HasSent; sends = Some (CarriesBatch b) }))
          (sym (same_nodes g room s journals packets h i (NodeDoes i (SendBatch agent seq)) n found (s.sent ++ CarriesBatch b ∷ [])))
          (record { needs_none = (n, found, inl (b, is, refl, sent)); nodes = refl; stands = stands_sent g room s journals packets h (CarriesBatch b) sent }))

  commanded : (c : NodeCommand) → WasSent g s c → ComesOf c (node_does g i n c)
  commanded (TakePacket name p) was = takes name p was
  commanded BeginBallot was = begins
  commanded (ExportPeriod p) was = exports p
  commanded TellKept was = keeps
  commanded (SendBatch agent seq) was = sends agent seq

module _ (g : Group) (room : ℕ) (s : Processes) (journals : Holding) (packets : List Packet) (h : Stands g room s journals packets) (i : ℕ) where
  found_so : (a : Act) (does : Node → NodeDone) (n : Node) → slice_get s.nodes i ≡ Some n → Comes g room s journals packets a (with_node_done i (does n) s)
      → Comes g room s journals packets a (by_node i s does)
  found_so a does n found is = subst (λ o. Comes g room s journals packets a (elim o [
    | Some n ↦ with_node_done i (does n) s
    | None ↦ record { answer = refusing (OfModel NoNode); after = s }
  ])) (sym found) is

  pub node_comes : i < length s.nodes → (c : NodeCommand) → WasSent g s c → Comes g room s journals packets (NodeDoes i c) (acted g s (NodeDoes i c))
  node_comes low c was =
      let at = some_at s.nodes i low in
      found_so (NodeDoes i c) (λ n. node_does g i n c) at.0 at.1 (commanded g room s journals packets h i at.0 at.1 c was)

  pub going_on_comes : (stored : Kept) → (n : Node) → slice_get s.nodes i ≡ Some n → n.kept ≡ stored
      → Comes g room s journals packets (NodeGoesOn i stored) (acted g s (NodeGoesOn i stored))
  going_on_comes stored n found is =
      subst (λ k. Comes g room s journals packets (NodeGoesOn i k) (acted g s (NodeGoesOn i k))) is
      (found_so (NodeGoesOn i n.kept) (λ m. node_goes_on n.kept) n found (goes_on g room s journals packets h i n found))

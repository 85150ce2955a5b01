-- The journals have just the batches that were answered `Journaled`.
use Rattle.std.proofs.Common.{◌≡◌, ℕ, zero, suc, List, [], ◌∷◌, refl, sym, ap, subst, ◌∙◌, Option, Some, None, Result, Ok, Err, ok_or, unwrap_or, nat_le, nat_lt, inl, inr}
use Rattle.std.specs.Prelude.{slice_get, ◌==◌, ◌⊎◌}
use Rattle.std.proofs.lemmas.Bool.{cases_Bool, eqb-true}
use Rattle.std.proofs.lemmas.Option.{same_Some, none-some}
use Rattle.metering_model.specs.FirstFailure.{◌>>=◌, holds_or}
use Rattle.metering_model.specs.declared.Refusal.{Refusal}
use Rattle.metering_model.specs.declared.Refusal.TheVariants.{NoNode, NoPacket, NoAgent, WrongSeq, AllClosed, NoBallot, Observer, NotKept}
use Rattle.metering_model.specs.Batch.{Batch}
use Rattle.metering_model.specs.Holding.{held, put, placed, is_batch_at}
use Rattle.metering_model.specs.JournalRules.{MeetsJournalRules, next_seq, first_broken}
use Rattle.metering_model.specs.World.{World, Node, Packet, Offer, Event, Journal, Deliver, Start, Restart, Export, Keep, Revive, Reply, Journaled, Delivered, votes, current_period, with_node_at, with_packet, next_packet}
use Rattle.metering_model.specs.Deliveries.{Handled, handled}
use Rattle.metering_model.specs.Step.{Outcome, batch_of, on_batch, after_delivery, or_refused, unless_broken, kept_of, kept_now as keeping, snapshot, step, play}
use Rattle.metering_model.specs.BatchReading.{is_same}
use Rattle.metering_model.specs.KeptText.{kept_text}
use Rattle.metering_model.proofs.StepLaws.{step_ok, test_step, ok_same}
use Rattle.metering_model.proofs.BatchOrder.{place_of_batch}
use Rattle.metering_model.proofs.HoldingLaws.{held-put_same, held-put_other}
use Rattle.metering_model.proofs.Journals.{next_not_held}
use Rattle.metering_model.proofs.PartLaws.{IsPartOf-grown}
use Rattle.group_laws.proofs.StepCases.{after, started, start_packet, journaling, IsKeptBySteps, step_kept}
use Rattle.group_laws.proofs.Forms.{HasForms, HasForms-step, readable, play_kept}
use Rattle.group_laws.proofs.Fits.{IsFitting, IsFitting-steps}

-- what a batch that was taken does
record IsTakenBy (w : World) (b : Batch) (o : Outcome) : Type 0 where
  pub packet : ℕ
  pub is : (Journaled packet, journaling w b) ≡ o
  pub absent : held w.journals b.agent b.seq ≡ None

module _ (w : World) (rules : MeetsJournalRules w.sheet w.journals) where
  taken_by : (b : Batch) (o : Outcome) → on_batch w b ≡ Ok o → IsTakenBy w b o
  taken_by b o e =
      let one = test_step (nat_le b.agent w.agents) NoAgent _ o e in
      let two = test_step (b.seq == next_seq w.journals b.agent) (WrongSeq (next_seq w.journals b.agent)) _ o one.1 in
      let three = step_ok (unless_broken (first_broken w.sheet (put w.journals b) (placed b))) _ o two.1 in
      let four = step_ok (next_packet w) _ o three.2 in
      let next : b.seq ≡ next_seq w.journals b.agent = eqb-true _ _ two.0 in
      record {
        packet = four.0;
        is = ok_same {E = Refusal} (Journaled four.0, journaling w b) o four.2;
        absent = subst (λ s. held w.journals b.agent s ≡ None) (sym next) (next_not_held w.sheet w.journals b.agent rules);
      }

  there : (b : Batch) → held w.journals b.agent b.seq ≡ None → held (put w.journals b) b.agent b.seq ≡ Some b
  there b none = held-put_same w.journals b rules.is_holding ∙ ap (λ o. Some (unwrap_or o b)) none

  now_there : (b : Batch) (k : ℕ) (r : Result Outcome Refusal) → on_batch w b ≡ r → (or_refused w r).0 ≡ Journaled k → held (or_refused w r).1.journals b.agent b.seq ≡ Some b
  now_there b k (Err e) is answer = absurd (cc)
  now_there b k (Ok o) is answer =
      let t = taken_by b o is in
      subst (λ (x : Outcome). held x.1.journals b.agent b.seq ≡ Some b) t.is (there b t.absent)

  kept_now : (k : ℕ) (r : Result Batch Refusal) → (or_refused w (r >>= on_batch w)).0 ≡ Journaled k → (b : Batch) × (r ≡ Ok b) × (held (or_refused w (r >>= on_batch w)).1.journals b.agent b.seq ≡ Some b)
  kept_now k (Err e) answer = absurd (cc)
  kept_now k (Ok b) answer = (b, refl, now_there b k (on_batch w b) refl answer)

  -- what the journals have after a batch was handed in they had before, or it is that batch
  abbrev IsNew : Result Batch Refusal → Outcome → Batch → Type 0
  IsNew r o b = (k : ℕ) × (o.0 ≡ Journaled k) × (r ≡ Ok b)

  new_or_old : (agent seq : ℕ) (b c : Batch) (r : Result Outcome Refusal) → on_batch w c ≡ r → held (or_refused w r).1.journals agent seq ≡ Some b →
      (held w.journals agent seq ≡ Some b) ⊎ IsNew (Ok c) (or_refused w r) b
  new_or_old agent seq b c (Err e) is has = inl has
  new_or_old agent seq b c (Ok o) is has = by_place (taken_by c o is)
    where
      by_place : IsTakenBy w c o → (held w.journals agent seq ≡ Some b) ⊎ IsNew (Ok c) o b
      by_place t =
          let put_there : held (put w.journals c) agent seq ≡ Some b = subst (λ (x : Outcome). held x.1.journals agent seq ≡ Some b) (sym t.is) has in
          elim (cases_Bool (is_batch_at agent seq c)) as (λ _. (held w.journals agent seq ≡ Some b) ⊎ IsNew (Ok c) o b) [
            | inl true_here ↦
                let place = place_of_batch agent seq c true_here in
                let mine : held (put w.journals c) agent seq ≡ Some c =
                subst (λ a. held (put w.journals c) a seq ≡ Some c) place.0 (subst (λ s. held (put w.journals c) c.agent s ≡ Some c) place.1 (there c t.absent)) in
                let same : c ≡ b = same_Some c b (sym mine ∙ put_there) in
                inr (t.packet, sym (ap (λ (x : Outcome). x.0) t.is), ap Ok same)
            | inr other ↦ inl (sym (held-put_other w.journals c agent seq other) ∙ put_there)
          ]

  only_now : (agent seq : ℕ) (b : Batch) (r : Result Batch Refusal) → held (or_refused w (r >>= on_batch w)).1.journals agent seq ≡ Some b →
      (held w.journals agent seq ≡ Some b) ⊎ IsNew r (or_refused w (r >>= on_batch w)) b
  only_now agent seq b (Err e) has = inl has
  only_now agent seq b (Ok c) has = new_or_old agent seq b c (on_batch w c) refl has

-- ---- over a run

record HasBatch (N : ℕ) (b : Batch) (w : World) : Type 0 where
  pub fitting : IsFitting N w
  pub has : held w.journals b.agent b.seq ≡ Some b

module _ (N : ℕ) (b : Batch) where
  has_after : (w : World) (i : ℕ) (n : Node) (o : Option Packet) → held w.journals b.agent b.seq ≡ Some b → held (after w i n o).journals b.agent b.seq ≡ Some b
  has_after w i n None h = h
  has_after w i n (Some q) h = h

  HasBatch-steps : IsKeptBySteps (HasBatch N b)
  HasBatch-steps = record {
    journals = λ w c k next. record { fitting = (IsFitting-steps N).journals w c k.fitting next; has = (IsPartOf-grown w.journals c k.fitting.rules.is_holding).had b.agent b.seq b k.has };
    delivers = λ w i n q k may. record { fitting = (IsFitting-steps N).delivers w i n q k.fitting may; has = has_after w i (handled w i n q).node (handled w i n q).sends k.has };
    starts = λ w i n k may. record { fitting = (IsFitting-steps N).starts w i n k.fitting may; has = has_after w i (started w i n) (Some (start_packet w i n)) k.has };
    restarts = λ w i n k found. record { fitting = (IsFitting-steps N).restarts w i n k.fitting found; has = k.has };
  }

pub kept : (N : ℕ) (es : List Event) (w : World) → HasForms w → IsFitting N w → (k packet : ℕ) (offer : Offer) → slice_get es k ≡ Some (Journal offer) → slice_get (play w es).0 k ≡ Some (Journaled packet) →
    (b : Batch) × (batch_of offer ≡ Ok b) × (held (play w es).1.journals b.agent b.seq ≡ Some b)
kept N [] w forms h k packet offer e answer = absurd (none-some _ e)
kept N (x ∷ es) w forms h zero packet offer e answer = this (same_Some x (Journal offer) e)
  where
    this : x ≡ Journal offer → (b : Batch) × (batch_of offer ≡ Ok b) × (held (play (step w x).1 es).1.journals b.agent b.seq ≡ Some b)
    this same =
        let answered : (step w (Journal offer)).0 ≡ Journaled packet = subst (λ (y : Event). (step w y).0 ≡ Journaled packet) same (same_Some _ _ answer) in
        let now = kept_now w h.rules packet (batch_of offer) answered in
        let here : held (step w x).1.journals now.0.agent now.0.seq ≡ Some now.0 = subst (λ (y : Event). held (step w y).1.journals now.0.agent now.0.seq ≡ Some now.0) (sym same) now.2 in
        (now.0, now.1, (play_kept (HasBatch N now.0) (HasBatch-steps N now.0) es (step w x).1 (HasForms-step w forms x) (record { fitting = step_kept (IsFitting N) (IsFitting-steps N) w (readable w forms) h x; has = here })).has)
kept N (x ∷ es) w forms h (suc k) packet offer e answer = kept N es (step w x).1 (HasForms-step w forms x) (step_kept (IsFitting N) (IsFitting-steps N) w (readable w forms) h x) k packet offer e answer

-- ---- no other event changes the journals

record Keeps (w : World) (r : Result Outcome Refusal) : Type 0 where
  pub same : (or_refused w r).1.journals ≡ w.journals

keeps_refused : (w : World) (e : Refusal) → Keeps w (Err e)
keeps_refused w e = record { same = refl }

keeps_bind : (w : World) {A : Type 0} (r : Result A Refusal) (f : A → Result Outcome Refusal) → ((x : A) → Keeps w (f x)) → Keeps w (r >>= f)
keeps_bind w (Ok x) f h = h x
keeps_bind w (Err e) f h = keeps_refused w e

module _ (w : World) where
  delivery_keeps_journals : (i : ℕ) (x : Handled) → Keeps w (after_delivery w i x)
  delivery_keeps_journals i x = by_sends x.sends
    where
      by_sends : (o : Option Packet) → Keeps w (elim o [ None ↦ Ok (Delivered None x.learns, with_node_at i x.node w) | Some p ↦ next_packet w >>= λ k. Ok (Delivered (Some k) x.learns, with_packet p (with_node_at i x.node w)) ])
      by_sends None = record { same = refl }
      by_sends (Some q) = keeps_bind w (next_packet w) _ (λ k. record { same = refl })

  other_keeps : (e : Event) → ((offer : Offer) → e ≡ Journal offer → ⊥) → (step w e).1.journals ≡ w.journals
  other_keeps (Journal offer) never = absurd (never offer refl)
  other_keeps (Deliver k i) never = (keeps_bind w (ok_or (slice_get w.packets k) NoPacket) _ (λ q. keeps_bind w (ok_or (slice_get w.nodes i) NoNode) _ (λ n. delivery_keeps_journals i (handled w i n q)))).same
  other_keeps (Start i) never = (keeps_bind w (ok_or (slice_get w.nodes i) NoNode) _ (λ n.
      keeps_bind w (holds_or (votes w i) Observer) _ (λ u.
      keeps_bind w (holds_or (nat_lt (current_period n) 1_200) AllClosed) _ (λ u.
      keeps_bind w (holds_or (nat_lt n.kept.round 10_000) NoBallot) _ (λ u.
      keeps_bind w (next_packet w) _ (λ k. record { same = refl })))))).same
  other_keeps (Restart i) never = (keeps_bind w (ok_or (slice_get w.nodes i) NoNode) _ (λ n. record { same = refl })).same
  other_keeps (Export i p) never = (keeps_bind w (snapshot w i p) _ (λ s. record { same = refl })).same
  other_keeps (Keep i) never = (keeps_bind w (ok_or (slice_get w.nodes i) NoNode) _ (λ n. record { same = refl })).same
  other_keeps (Revive i offer) never = (keeps_bind w (ok_or (slice_get w.nodes i) NoNode) _ (λ n.
      keeps_bind w (kept_of offer) _ (λ k.
      keeps_bind w (holds_or (is_same (kept_text k) (kept_text (keeping w n))) NotKept) _ (λ u. record { same = refl })))).same

-- an event of these was answered `Journaled`, and handed in the batch
abbrev pub IsJournaled : List Event → List Reply → Batch → Type 0
IsJournaled events replies b =
    (k : ℕ) × (packet : ℕ) × (offer : Offer) × (slice_get events k ≡ Some (Journal offer)) × (slice_get replies k ≡ Some (Journaled packet)) × (batch_of offer ≡ Ok b)

only_step : (w : World) → MeetsJournalRules w.sheet w.journals → (e : Event) (agent seq : ℕ) (b : Batch) → held (step w e).1.journals agent seq ≡ Some b →
    (held w.journals agent seq ≡ Some b) ⊎ ((offer : Offer) × (packet : ℕ) × (e ≡ Journal offer) × ((step w e).0 ≡ Journaled packet) × (batch_of offer ≡ Ok b))
only_step w rules (Journal offer) agent seq b has = elim (only_now w rules agent seq b (batch_of offer) has) [
  | inl old ↦ inl old
  | inr new ↦ inr (offer, new.0, refl, new.1, new.2)
]
only_step w rules (Deliver k i) agent seq b has = inl (subst (λ h. held h agent seq ≡ Some b) (other_keeps w (Deliver k i) (λ offer e. cc)) has)
only_step w rules (Start i) agent seq b has = inl (subst (λ h. held h agent seq ≡ Some b) (other_keeps w (Start i) (λ offer e. cc)) has)
only_step w rules (Restart i) agent seq b has = inl (subst (λ h. held h agent seq ≡ Some b) (other_keeps w (Restart i) (λ offer e. cc)) has)
only_step w rules (Keep i) agent seq b has = inl (subst (λ h. held h agent seq ≡ Some b) (other_keeps w (Keep i) (λ offer e. cc)) has)
only_step w rules (Revive i kept) agent seq b has = inl (subst (λ h. held h agent seq ≡ Some b) (other_keeps w (Revive i kept) (λ offer e. cc)) has)
only_step w rules (Export i p) agent seq b has = inl (subst (λ h. held h agent seq ≡ Some b) (other_keeps w (Export i p) (λ offer e. cc)) has)

pub only : (N : ℕ) (es : List Event) (w : World) → HasForms w → IsFitting N w → (agent seq : ℕ) (b : Batch) → held (play w es).1.journals agent seq ≡ Some b →
    (held w.journals agent seq ≡ Some b) ⊎ IsJournaled es (play w es).0 b
only N [] w forms h agent seq b has = inl has
only N (e ∷ es) w forms h agent seq b has = elim (only N es (step w e).1 (HasForms-step w forms e) (step_kept (IsFitting N) (IsFitting-steps N) w (readable w forms) h e) agent seq b has) [
  | inl before ↦ elim (only_step w h.rules e agent seq b before) [
    | inl old ↦ inl old
    | inr new ↦ inr (0, new.1, new.0, ap Some new.2, ap Some new.3, new.4)
  ]
  | inr found ↦ inr (suc found.0, found.1, found.2, found.3, found.4, found.5)
]

-- A text that a run answers is of what a node kept, and so of cuts and batches within their limits.
use Rattle.std.proofs.Common.{◌≡◌, ℕ, zero, suc, List, [], ◌∷◌, refl, Option, Some, None, Result, Ok, Err, ok_or, nat_lt, nat_le}
use Rattle.std.specs.Prelude.{slice_get, ◌==◌}
use Rattle.std.proofs.lemmas.Option.{same_Some, none-some}
use Rattle.metering_model.specs.FirstFailure.{◌>>=◌, holds_or}
use Rattle.metering_model.specs.declared.Refusal.{Refusal}
use Rattle.metering_model.specs.declared.Refusal.TheVariants.{NoNode, NoPacket, NoAgent, WrongSeq, AllClosed, NoBallot, Observer, NotKept}
use Rattle.metering_model.specs.Batch.{Batch}
use Rattle.metering_model.specs.BatchReading.{batch_in, is_same}
use Rattle.metering_model.specs.Holding.{put, placed}
use Rattle.metering_model.specs.JournalRules.{next_seq, first_broken}
use Rattle.metering_model.specs.KeptText.{KeptAmong, kept_text}
use Rattle.metering_model.specs.World.{World, Node, Packet, Good, Bad, Event, Journal, Deliver, Start, Restart, Export, Keep, Revive, KeptText, Delivered, votes, current_period, with_node_at, with_packet, next_packet}
use Rattle.metering_model.specs.Deliveries.{Handled, handled}
use Rattle.metering_model.specs.Step.{Outcome, on_batch, after_delivery, or_refused, or_bad_batch, unless_broken, snapshot, kept_of, kept_now, step, play}
use Rattle.metering_model.proofs.KeptLaws.{IsWritable}
use Rattle.group_laws.proofs.Forms.{HasForms, HasForms-step, writable}

-- ---- only a keep is answered with a text

record NeverKeeps (w : World) (r : Result Outcome Refusal) : Type 0 where
  pub never : (text : List ℕ) → (or_refused w r).0 ≡ KeptText text → ⊥

refused : (w : World) (e : Refusal) → NeverKeeps w (Err e)
refused w e = record { never = λ text is. cc }

after_bind : (w : World) {A : Type 0} (r : Result A Refusal) (f : A → Result Outcome Refusal) → ((x : A) → NeverKeeps w (f x)) → NeverKeeps w (r >>= f)
after_bind w (Ok x) f h = h x
after_bind w (Err e) f h = refused w e

-- the text is of something with cuts and batches within their limits
abbrev pub IsOfKept : List ℕ → Type 0
IsOfKept text = (k : KeptAmong) × IsWritable k × (text ≡ kept_text k)

module _ (w : World) where
  batch_never : (b : Batch) → NeverKeeps w (on_batch w b)
  batch_never b =
      after_bind w (holds_or (nat_le b.agent w.agents) NoAgent) _ (λ u.
      after_bind w (holds_or (b.seq == next_seq w.journals b.agent) (WrongSeq (next_seq w.journals b.agent))) _ (λ u.
      after_bind w (unless_broken (first_broken w.sheet (put w.journals b) (placed b))) _ (λ u.
      after_bind w (next_packet w) _ (λ k. record { never = λ text is. cc }))))

  handled_never : (i : ℕ) (x : Handled) → NeverKeeps w (after_delivery w i x)
  handled_never i x = by_sends x.sends
    where
      by_sends : (o : Option Packet) → NeverKeeps w (elim o [ None ↦ Ok (Delivered None x.learns, with_node_at i x.node w) | Some p ↦ next_packet w >>= λ k. Ok (Delivered (Some k) x.learns, with_packet p (with_node_at i x.node w)) ])
      by_sends None = record { never = λ text is. cc }
      by_sends (Some q) = after_bind w (next_packet w) _ (λ k. record { never = λ text is. cc })

  kept_by : (forms : HasForms w) (text : List ℕ) (o : Option Node) → ((n : Node) → o ≡ Some n → IsWritable (kept_now w n)) → (or_refused w (ok_or o NoNode >>= λ n. Ok (KeptText (kept_text (kept_now w n)), w))).0 ≡ KeptText text → IsOfKept text
  kept_by forms text None has is = absurd (cc)
  kept_by forms text (Some n) has is = (kept_now w n, has n refl, same is)
    where
      same : KeptText (kept_text (kept_now w n)) ≡ KeptText text → text ≡ kept_text (kept_now w n)
      same e = cc

  kept_answer : (forms : HasForms w) (e : Event) (text : List ℕ) → (step w e).0 ≡ KeptText text → IsOfKept text
  kept_answer forms (Journal (Good t)) text is = absurd ((after_bind w (or_bad_batch (batch_in t)) (on_batch w) batch_never).never text is)
  kept_answer forms (Journal (Bad fault)) text is = absurd (cc)
  kept_answer forms (Deliver k i) text is =
      absurd ((after_bind w (ok_or (slice_get w.packets k) NoPacket) _ (λ q. after_bind w (ok_or (slice_get w.nodes i) NoNode) _ (λ n. handled_never i (handled w i n q)))).never text is)
  kept_answer forms (Start i) text is =
      absurd ((after_bind w (ok_or (slice_get w.nodes i) NoNode) _ (λ n.
      after_bind w (holds_or (votes w i) Observer) _ (λ u.
      after_bind w (holds_or (nat_lt (current_period n) 1_200) AllClosed) _ (λ u.
      after_bind w (holds_or (nat_lt n.kept.round 10_000) NoBallot) _ (λ u.
      after_bind w (next_packet w) _ (λ k. record { never = λ t is. cc })))))).never text is)
  kept_answer forms (Restart i) text is = absurd ((after_bind w (ok_or (slice_get w.nodes i) NoNode) _ (λ n. record { never = λ t is. cc })).never text is)
  kept_answer forms (Export i p) text is = absurd ((after_bind w (snapshot w i p) _ (λ s. record { never = λ t is. cc })).never text is)
  kept_answer forms (Keep i) text is = kept_by forms text (slice_get w.nodes i) (λ n found. writable w n (forms.nodes i n found)) is
  kept_answer forms (Revive i offer) text is =
      absurd ((after_bind w (ok_or (slice_get w.nodes i) NoNode) _ (λ n.
      after_bind w (kept_of offer) _ (λ k.
      after_bind w (holds_or (is_same (kept_text k) (kept_text (kept_now w n))) NotKept) _ (λ u. record { never = λ t is. cc })))).never text is)

-- each text among the replies of a run is of something kept
pub texts_are_kept : (es : List Event) (w : World) → HasForms w → (k : ℕ) (text : List ℕ) → slice_get (play w es).0 k ≡ Some (KeptText text) → IsOfKept text
texts_are_kept [] w forms k text e = absurd (none-some _ e)
texts_are_kept (e ∷ es) w forms zero text is = kept_answer w forms e text (same_Some _ _ is)
texts_are_kept (e ∷ es) w forms (suc k) text is = texts_are_kept es (step w e).1 (HasForms-step w forms e) k text is

-- Each batch of the journals was sent, after every run.
use Rattle.std.proofs.Common.{◌≡◌, ℕ, List, [], ◌∷◌, ◌++◌, sym, subst, ◌∙◌, Option, Some, None, inl, inr, All}
use Rattle.std.proofs.lemmas.Bool.{cases_Bool, cond-true, cond-false}
use Rattle.std.proofs.lemmas.Option.{same_Some, none-some}
use Rattle.std.proofs.lemmas.List.Elements.{All-nil, All-cons, All-head, All-tail, All-weaker}
use Rattle.metering_model.specs.Batch.{Batch}
use Rattle.metering_model.specs.Sheet.{Sheet, Issuer}
use Rattle.metering_model.specs.Holding.{Holding, held, put, is_batch_at}
use Rattle.metering_model.specs.World.{World, Node, Packet, CarriesBatch, Event, wake, opening_with}
use Rattle.metering_model.specs.Deliveries.{handled}
use Rattle.metering_model.specs.Step.{play}
use Rattle.metering_model.proofs.BatchOrder.{put_cases}
use Rattle.group_laws.proofs.Kept.{sent_before, sent_now}
use Rattle.group_laws.proofs.Quorum.{In}
use Rattle.group_laws.proofs.StepCases.{after, started, start_packet, IsKeptBySteps}
use Rattle.group_laws.proofs.Forms.{HasForms-opening, play_kept}

-- ---- each batch of a holding

-- what holds of each batch and of one more holds where that is put among them
pub All-put : (P : Batch → Type 0) (h : Holding) (b : Batch) → All P h → P b → All P (put h b)
All-put P [] b all has = All-cons P b [] has all
All-put P (c ∷ h) b all has =
    put_cases (All P) b c h
    (λ _. All-cons P b (c ∷ h) has all)
    (λ _. All-cons P c (put h b) (All-head P c h all) (All-put P h b (All-tail P c h all) has))
    (λ _. all)

-- and it holds of the one that is held under a number
pub at_held : (P : Batch → Type 0) (h : Holding) (agent seq : ℕ) (b : Batch) → All P h → held h agent seq ≡ Some b → P b
at_held P [] agent seq b all e = absurd (none-some b e)
at_held P (c ∷ h) agent seq b all e = elim (cases_Bool (is_batch_at agent seq c)) [
  | inl at ↦ subst P (same_Some c b (sym (cond-true (is_batch_at agent seq c) (Some c) (held h agent seq) at) ∙ e)) (All-head P c h all)
  | inr past ↦ at_held P h agent seq b (All-tail P c h all) (sym (cond-false (is_batch_at agent seq c) (Some c) (held h agent seq) past) ∙ e)
]

-- ---- what was sent

abbrev pub WasCarried : List Packet → Batch → Type 0
WasCarried packets b = In packets (CarriesBatch b)

pub record HasCarried (w : World) : Type 0 where
  pub each : All (WasCarried w.packets) w.journals

-- what was sent was sent when one packet more is
still_sent : (packets : List Packet) (q : Packet) (h : Holding) → All (WasCarried packets) h → All (WasCarried (packets ++ q ∷ [])) h
still_sent packets q h all = All-weaker (WasCarried packets) (WasCarried (packets ++ q ∷ [])) (λ b. sent_before packets q (CarriesBatch b)) h all

carried_after : (w : World) (i : ℕ) (n : Node) (o : Option Packet) → HasCarried w → HasCarried (after w i n o)
carried_after w i n None h = record { each = h.each }
carried_after w i n (Some q) h = record { each = still_sent w.packets q w.journals h.each }

HasCarried-steps : IsKeptBySteps HasCarried
HasCarried-steps = record {
  journals = λ w b h next. record {
    each = All-put (WasCarried (w.packets ++ CarriesBatch b ∷ [])) w.journals b (still_sent w.packets (CarriesBatch b) w.journals h.each) (sent_now w.packets (CarriesBatch b));
  };
  delivers = λ w i n q h may. carried_after w i (handled w i n q).node (handled w i n q).sends h;
  starts = λ w i n h may. carried_after w i (started w i n) (Some (start_packet w i n)) h;
  restarts = λ w i n h found. carried_after w i (wake n.kept) None h;
}

pub has_carried : (room voters observers agents : ℕ) (sheet : Sheet) (issuer : Issuer) (events : List Event)
    → HasCarried (play (opening_with room voters observers agents sheet issuer) events).1
has_carried room voters observers agents sheet issuer events =
    play_kept HasCarried HasCarried-steps events (opening_with room voters observers agents sheet issuer)
    (HasForms-opening room voters observers agents sheet issuer) (record { each = All-nil (WasCarried []) })

-- Each event has one answer, and an export is of the period that was asked for.
use Rattle.std.proofs.Common.{◌≡◌, ℕ, zero, suc, List, [], ◌∷◌, length, refl, ap, Some, Ok}
use Rattle.std.specs.Prelude.{slice_get}
use Rattle.std.proofs.lemmas.Option.{same_Some, none-some}
use Rattle.metering_model.specs.declared.Refusal.{Refusal}
use Rattle.metering_model.specs.declared.Refusal.TheVariants.{NoNode, NotClosed}
use Rattle.metering_model.specs.Cut.{Cut}
use Rattle.metering_model.specs.World.{World, Node, Event, Journal, Deliver, Start, Restart, Export, Keep, Revive, Snapshot, Exported, current_period}
use Rattle.metering_model.specs.Step.{first_missing, unless_missing, snapshot, step, play}
use Rattle.metering_model.proofs.StepLaws.{step_ok, some_step, ok_same}
use Rattle.group_laws.proofs.Exports.{journal_never, delivery_never, start_never, restart_never, keep_never, revival_never, snapshot_of_reply, snapshot_of}

pub one_each : (es : List Event) (w : World) → length (play w es).0 ≡ length es
one_each [] w = refl
one_each (e ∷ es) w = ap suc (one_each es (step w e).1)

-- an event that asks for this period at some node
abbrev pub Asks : Event → ℕ → Type 0
Asks e p = (node : ℕ) × (e ≡ Export node p)

period_of : (w : World) (i p : ℕ) (s : Snapshot) → snapshot w i p ≡ Ok s → p ≡ s.period
period_of w i p s e =
    let one = some_step (slice_get w.nodes i) NoNode _ s e in
    let n : Node = one.0 in
    let two = some_step (slice_get n.kept.learned p) (NotClosed (current_period n)) _ s one.2 in
    let to : Cut = two.0 in
    let three = step_ok (unless_missing (first_missing n.kept.holding to)) _ s two.2 in
    ap (λ (x : Snapshot). x.period) (ok_same {E = Refusal} (snapshot_of w n p to) s three.2)

asked_now : (w : World) (e : Event) (s : Snapshot) → (step w e).0 ≡ Exported s → Asks e s.period
asked_now w (Journal offer) s is = absurd ((journal_never w offer).never s is)
asked_now w (Deliver k i) s is = absurd ((delivery_never w k i).never s is)
asked_now w (Start i) s is = absurd ((start_never w i).never s is)
asked_now w (Restart i) s is = absurd ((restart_never w i).never s is)
asked_now w (Keep i) s is = absurd ((keep_never w i).never s is)
asked_now w (Revive i offer) s is = absurd ((revival_never w i offer).never s is)
asked_now w (Export i p) s is = (i, ap (λ q. Export i q) (period_of w i p s (snapshot_of_reply w (snapshot w i p) s is)))

pub asked : (es : List Event) (w : World) (k : ℕ) (s : Snapshot) → slice_get (play w es).0 k ≡ Some (Exported s) → (node : ℕ) × (slice_get es k ≡ Some (Export node s.period))
asked [] w k s is = absurd (none-some _ is)
asked (e ∷ es) w zero s is =
    let now = asked_now w e s (same_Some _ _ is) in
    (now.0, ap Some now.1)
asked (e ∷ es) w (suc k) s is = asked es (step w e).1 k s is

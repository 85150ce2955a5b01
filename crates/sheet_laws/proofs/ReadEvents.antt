-- Playing events whose batches were read before. A worked example so reads each text once, and not in each run of it.
use Rattle.std.proofs.Common.{◌≡◌, ℕ, List, [], ◌∷◌, refl, ap, ◌∙◌, Result, Ok, Err}
use Rattle.metering_model.specs.declared.BatchFault.{BatchFault}
use Rattle.metering_model.specs.FirstFailure.{◌>>=◌}
use Rattle.metering_model.specs.Batch.{Batch}
use Rattle.metering_model.specs.BatchReading.{batch_in}
use Rattle.metering_model.specs.World.{World, Offer, Good, Bad, Event, Journal, Reply, offer_of}
use Rattle.metering_model.specs.Step.{play, step, on_batch, or_refused, or_bad_batch, replies_then, Outcome}

-- an event, or the batch that is read from what one hands in
pub data ReadEvent : Type 0 where
  ReadBatch : Batch → ReadEvent
  Is : Event → ReadEvent

abbrev pub step_read : World → ReadEvent → Outcome
step_read w (ReadBatch b) = or_refused w (on_batch w b)
step_read w (Is e) = step w e

abbrev pub play_read : World → List ReadEvent → List Reply × World
play_read w [] = ([], w)
play_read w (e ∷ es) = let now = step_read w e in replies_then now.0 (play_read now.1 es)

abbrev pub IsRead : Event → ReadEvent → Type 0
IsRead e (ReadBatch b) = (text : List ℕ) × (e ≡ Journal (offer_of text)) × (batch_in text ≡ Ok b)
IsRead e (Is f) = e ≡ f

abbrev pub AreRead : List Event → List ReadEvent → Type 0
AreRead [] [] = Unit {0}
AreRead [] (x ∷ xs) = ⊥
AreRead (e ∷ es) [] = ⊥
AreRead (e ∷ es) (x ∷ xs) = IsRead e x × AreRead es xs

good : (text : List ℕ) (b : Batch) → batch_in text ≡ Ok b → offer_of text ≡ Good text
good text b e = ap (λ (r : Result Batch BatchFault). elim r as (λ x. Offer) [ Ok b ↦ Good text | Err fault ↦ Bad fault ]) e

same_step : (w : World) (e : Event) (x : ReadEvent) → IsRead e x → step w e ≡ step_read w x
same_step w e (ReadBatch b) is =
    ap (step w) is.1 ∙ (ap (λ (o : Offer). step w (Journal o)) (good is.0 b is.2)
    ∙ ap (λ (r : Result Batch BatchFault). or_refused w (or_bad_batch r >>= on_batch w)) is.2)
same_step w e (Is f) is = ap (step w) is

pub same_play : (w : World) (es : List Event) (xs : List ReadEvent) → AreRead es xs → play w es ≡ play_read w xs
same_play w [] [] are = refl
same_play w [] (x ∷ xs) are = absurd are
same_play w (e ∷ es) [] are = absurd are
same_play w (e ∷ es) (x ∷ xs) are =
    ap (λ (now : Outcome). replies_then now.0 (play now.1 es)) (same_step w e x are.0)
    ∙ ap (replies_then (step_read w x).0) (same_play (step_read w x).1 es xs are.1)

pub same_replies : (w : World) (es : List Event) (xs : List ReadEvent) → AreRead es xs → (play w es).0 ≡ (play_read w xs).0
same_replies w es xs are = ap (λ (run : List Reply × World). run.0) (same_play w es xs are)

-- The step reads the bytes itself, and finds what reading them before had found.
use Rattle.std.proofs.Common.{◌≡◌, ℕ, List, Ok, Err, Result, refl, ap}
use Rattle.metering_model.specs.FirstFailure.{◌>>=◌}
use Rattle.metering_model.specs.Batch.{Batch}
use Rattle.metering_model.specs.BatchReading.{BatchFault, batch_in}
use Rattle.metering_model.specs.World.{World, Good, Bad, Journal}
use Rattle.metering_model.specs.Step.{or_bad_batch, on_batch, or_refused, step}
use Rattle.metering_model.proofs.laws.bytes_and_their_offer_are_journaled_alike.Goals as goal

alike : (w : World) (text : List ℕ) (read : Result Batch BatchFault) → batch_in text ≡ read →
    step w (Journal (Good text)) ≡ step w (Journal (elim read [ Ok b ↦ Good text | Err fault ↦ Bad fault ]))
alike w text (Ok b) e = refl
alike w text (Err fault) e = ap (λ (r : Result Batch BatchFault). or_refused w (or_bad_batch r >>= on_batch w)) e

pub returns : goal.returns
returns c = λ w text. alike w text (batch_in text) refl

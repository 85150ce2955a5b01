-- What comes of bytes that are offered as a batch.
use Rattle.std.specs.Prelude.{◌≡◌, ℕ, List, Ok, Err}
use Rattle.std.specs.Arc.{arc_value}
use Rattle.metering_model.specs.BatchReading.{batch_in}
use Rattle.batch_view.specs.Batches.{batch_of}
use Rattle.batch_view.specs.declared.owned.Offer.{Offer}
use Rattle.batch_view.specs.declared.owned.Offer.TheVariants.{Good, Bad}

-- just these bytes where they are a batch, else their first fault
abbrev pub IsOfferOf : List ℕ → Offer → Type 0
IsOfferOf bytes (Good kept) = (arc_value kept ≡ bytes) × (batch_in bytes ≡ Ok (batch_of bytes))
IsOfferOf bytes (Bad fault) = batch_in bytes ≡ Err fault

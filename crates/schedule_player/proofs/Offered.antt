-- What is made of a journal's bytes is what they hand in.
use Rattle.std.proofs.Common.{◌≡◌, ℕ, List, Result, Ok, Err, sym, ap, ◌∙◌}
use Rattle.group_events.specs.declared.Offer.{Offer}
use Rattle.group_events.specs.declared.Offer.TheVariants as read
use Rattle.group_events.specs.Offers.{IsOfferOf}
use Rattle.metering_model.specs.Batch.{Batch}
use Rattle.metering_model.specs.declared.BatchFault.{BatchFault}
use Rattle.metering_model.specs.World as model
use Rattle.group_events.specs.Events.{offer_of}

abbrev by_answer : List ℕ → Result Batch BatchFault → model.Offer
by_answer bytes r = elim r [ Ok b ↦ model.Good bytes | Err fault ↦ model.Bad fault ]

pub offered : (bytes : List ℕ) (o : Offer) → IsOfferOf bytes o → offer_of o ≡ model.offer_of bytes
offered bytes (read.Good kept) is = ap model.Good is.0 ∙ sym (ap (by_answer bytes) is.1)
offered bytes (read.Bad fault) is = sym (ap (by_answer bytes) is)

-- What an event stands for.
use Rattle.std.specs.Prelude.{Bool, true, false}
use Rattle.std.specs.Arc.{arc_value}
use Rattle.batch_view.specs.declared.owned.Offer.{Offer}
use Rattle.batch_view.specs.declared.owned.Offer.TheVariants.{Good, Bad}
use Rattle.metering_model.specs.World as model
use Rattle.node_kept.specs.Offers as kept
use Rattle.group_events.specs.declared.events.Event.{Event}
use Rattle.group_events.specs.declared.events.Event.TheVariants.{Journal, Deliver, Start, Restart, Export, Keep, Revive}

-- a batch by its bytes, and what is none by its fault
abbrev pub offer_of : Offer → model.Offer
offer_of (Good batch) = model.Good (arc_value batch)
offer_of (Bad fault) = model.Bad fault

abbrev pub event_of : Event → model.Event
event_of (Journal offer) = model.Journal (offer_of offer)
event_of (Deliver packet node) = model.Deliver packet node
event_of (Start node) = model.Start node
event_of (Restart node) = model.Restart node
event_of (Export node period) = model.Export node period
event_of (Keep node) = model.Keep node
event_of (Revive node offer) = model.Revive node (kept.kept_offer offer)

-- whether the offer is of a batch, which a copy shares
abbrev pub is_batch : model.Offer → Bool
is_batch (model.Good text) = true
is_batch (model.Bad fault) = false

-- whether a copy of the event shares what was read, a batch or the text of what a node keeps
abbrev pub shares : model.Event → Bool
shares (model.Journal offer) = is_batch offer
shares (model.Revive node offer) = kept.is_read offer
shares _ = false

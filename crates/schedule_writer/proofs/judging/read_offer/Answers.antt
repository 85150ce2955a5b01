use Rattle.std.proofs.Common.{IfOk, subst}
use Rattle.group_events.specs.Offers.{IsOfferOf}
use Rattle.schedule_writer.proofs.judging.read_offer.Goals as goal

pub returns : goal.returns
returns c = subst (λ t. IfOk c.read_within.result (IsOfferOf t)) c.requires.is_text c.read_within.ensures.answer

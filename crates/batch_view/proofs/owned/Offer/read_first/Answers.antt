-- What is offered are the bytes of the first batch, and none behind them.
use Rattle.std.proofs.Common.{rules}
use Rattle.batch_view.proofs.owned.Offer.read_first.Goals as goal

pub returns-in-Ok-offer_of-clause-answer : goal.returns-in-Ok-offer_of-clause-answer
returns-in-Ok-offer_of-clause-answer c = search rules

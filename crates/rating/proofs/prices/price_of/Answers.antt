use Rattle.rating.proofs.prices.price_of.Goals as goal

pub returns : goal.returns
returns c = c.price_for.ensures

use Rattle.fx_money.proofs.Decimals.{cut_six}
use Rattle.fx_money.proofs.writing.without_six_zeros.Goals as goal

pub returns-then-number-eq0-clause-cut : goal.returns-then-number-eq0-clause-cut
returns-then-number-eq0-clause-cut c = cut_six c.args.places c.args.number c.requires.positive c.requires.below c.if-number-eq0.true

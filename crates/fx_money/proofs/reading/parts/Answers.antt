use Rattle.std.proofs.Common.{sym}
use Rattle.metering_model.specs.NumberText.{is_point}
use Rattle.fx_money.proofs.Points.{before_place, behind_place, before_none, behind_none}
use Rattle.fx_money.proofs.reading.parts.Goals as goal

pub returns-in-Some-clause-whole : goal.returns-in-Some-clause-whole
returns-in-Some-clause-whole c = before_place is_point c.args.body.now _ (sym c.in-Some.ensures)

pub returns-in-Some-clause-decimals : goal.returns-in-Some-clause-decimals
returns-in-Some-clause-decimals c = behind_place is_point c.args.body.now _ (sym c.in-Some.ensures)

pub returns-in-None-clause-whole : goal.returns-in-None-clause-whole
returns-in-None-clause-whole c = before_none is_point c.args.body.now (sym c.in-None.ensures)

pub returns-in-None-clause-decimals : goal.returns-in-None-clause-decimals
returns-in-None-clause-decimals c = behind_none is_point c.args.body.now (sym c.in-None.ensures)

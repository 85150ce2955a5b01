use Rattle.row_laws.proofs.PricedRows.{billed_costs, bought_costs, used_costs, effective_costs}
use Rattle.row_laws.proofs.laws.commitments_are_billed_where_they_are_bought.Goals as goal

pub returns-clause-billed : goal.returns-clause-billed
returns-clause-billed c = billed_costs

pub returns-clause-bought : goal.returns-clause-bought
returns-clause-bought c = bought_costs

pub returns-clause-used : goal.returns-clause-used
returns-clause-used c = used_costs

pub returns-clause-others : goal.returns-clause-others
returns-clause-others c = effective_costs

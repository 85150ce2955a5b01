use Rattle.row_laws.proofs.PricedRows.{list_costs, contracted_costs}
use Rattle.row_laws.proofs.laws.unit_prices_times_quantities_are_costs.Goals as goal

pub returns-clause-list : goal.returns-clause-list
returns-clause-list c = list_costs

pub returns-clause-contracted : goal.returns-clause-contracted
returns-clause-contracted c = contracted_costs

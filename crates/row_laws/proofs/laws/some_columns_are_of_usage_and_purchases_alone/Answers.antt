use Rattle.row_laws.proofs.PricedRows.{named_column, status_column, category_column}
use Rattle.row_laws.proofs.laws.some_columns_are_of_usage_and_purchases_alone.Goals as goal

pub returns-clause-named : goal.returns-clause-named
returns-clause-named c = named_column

pub returns-clause-status : goal.returns-clause-status
returns-clause-status c = status_column

pub returns-clause-category : goal.returns-clause-category
returns-clause-category c = category_column

use Rattle.row_laws.proofs.PricedRows.{price_columns, consumed_columns, commitment_columns, region_columns}
use Rattle.row_laws.proofs.laws.columns_are_null_together.Goals as goal

pub returns-clause-price : goal.returns-clause-price
returns-clause-price c = price_columns

pub returns-clause-consumed : goal.returns-clause-consumed
returns-clause-consumed c = consumed_columns

pub returns-clause-commitment : goal.returns-clause-commitment
returns-clause-commitment c = commitment_columns

pub returns-clause-region : goal.returns-clause-region
returns-clause-region c = region_columns

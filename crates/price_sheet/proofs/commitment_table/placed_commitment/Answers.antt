-- A row is told by its first fault, with its place.
use Rattle.std.proofs.Common.{rules}
use Rattle.price_sheet.proofs.commitment_table.placed_commitment.Goals as goal

pub returns-in_err-row-clause-answer : goal.returns-in_err-row-clause-answer
returns-in_err-row-clause-answer c = search rules

pub returns-then-not-has_sku-2-clause-answer : goal.returns-then-not-has_sku-2-clause-answer
returns-then-not-has_sku-2-clause-answer c = search rules

pub returns-clause-answer : goal.returns-clause-answer
returns-clause-answer c = search rules

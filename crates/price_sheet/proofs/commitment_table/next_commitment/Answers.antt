-- A commitment is told as what was read of its table.
use Rattle.std.proofs.Common.{refl}
use Rattle.price_sheet.specs.SheetReading.{placed_commitment, next_commitment}
use Rattle.price_sheet.proofs.Chains.{taken_as, refused_as}
use Rattle.price_sheet.proofs.commitment_table.next_commitment.Goals as goal

pub returns-clause-taken : goal.returns-clause-taken
unfolding next_commitment
returns-clause-taken c = taken_as (placed_commitment c.args.prices.now c.args.rows.now) _ _ _ refl c.read.ensures c.placed_commitment.ensures.answer

pub returns-clause-refused : goal.returns-clause-refused
unfolding next_commitment
returns-clause-refused c = refused_as (placed_commitment c.args.prices.now c.args.rows.now) _ _ _ refl c.read.ensures c.placed_commitment.ensures.answer

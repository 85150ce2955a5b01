use Rattle.std.proofs.Common.{length, ap, ◌∙◌, arith, rules}
use Rattle.focus_row.proofs.walk.BatchRows.next_rows.Goals as goal

-- the rows are none before the first of them is put
pub returns-clause-most : goal.returns-clause-most
returns-clause-most c =
    let none = ap length (c.in_ok-reserve_exact.ensures.items ∙ c.clear.ensures.items) in
    c.in-Ok.ensures.on.most (omega arith)

-- what was put before memory was refused is taken out again
pub returns-in_default-clause-empty : goal.returns-in_default-clause-empty
returns-in_default-clause-empty c = cc

pub returns-clause-rows : goal.returns-clause-rows
returns-clause-rows c = search rules

-- One row more, read and put into the index.
use Rattle.std.proofs.Common.{[], sym}
use Rattle.toml.specs.View.{table_view}
use Rattle.price_sheet.proofs.Chains.{went}
use Rattle.price_sheet.proofs.LookLaws.{price_step}
use Rattle.price_sheet.proofs.price_table.put_next_price.Goals as goal

pub returns-clause-taken : goal.returns-clause-taken
returns-clause-taken c =
    let next = rw c.deref.ensures.value at c.in_ok-row.ensures.taken in
    let items = rw c.if-is_err-2.ensures.negation at c.push.ensures.items in
    rw items (sym (price_step c.args.rows.now.items (table_view c.args.table.now) c.in_ok-row.row [] next))

pub returns-clause-indexed : goal.returns-clause-indexed
returns-clause-indexed c =
    let items = rw c.if-is_err-2.ensures.negation at c.push.ensures.items in
    rw (items, ← c.deref-2.ensures.value) (went c.add.result c.add.ensures c.if-is_err.ensures.value)

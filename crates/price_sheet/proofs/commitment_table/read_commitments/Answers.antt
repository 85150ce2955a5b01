-- One row more, read and put behind the others.
use Rattle.std.proofs.Common.{◌+◌, [], ◌∷◌, map, drop, length-append, sym, ap, ◌∙◌, arith}
use Rattle.std.proofs.lemmas.List.{at_drop_more, at_drop_all}
use Rattle.toml.specs.View.{table_view}
use Rattle.price_sheet.specs.SheetReading.{commitments_in}
use Rattle.price_sheet.proofs.Chains.{went, handed_on}
use Rattle.price_sheet.proofs.IdLaws.{commitment_step, commitment_fault}
use Rattle.price_sheet.proofs.commitment_table.read_commitments.Goals as goal

pub loop-table-preserved : goal.loop-table-preserved
loop-table-preserved c =
    let prices = c.args.prices.now in
    let read = c.loop-table.rows in
    let row = c.in_ok-row.row in
    let tables = c.args.tables.now in
    let at = c.loop-table.table-index in
    let table = c.table-item.result in
    let rows = went c.put.result c.put.ensures c.if-is_err.ensures.value in
    let step = commitment_step prices read (table_view table.now) row (map (λ t. table_view t.now) (drop (at + 1) tables)) c.in_ok-row.ensures.taken in
    let rest = at_drop_more (λ ts. commitments_in prices read (map (λ t. table_view t.now) ts)) tables at table c.loop-table-test.true in
    let first = ap (λ t. commitments_in prices read (table_view t.now ∷ map (λ t. table_view t.now) (drop (at + 1) tables))) (sym c.table-item.is) in
    record {
      read = rw rows (step ∙ sym first ∙ sym rest ∙ c.loop-table.invariant.read);
      count = rw rows (omega (arith, length-append read (row ∷ []), c.loop-table.invariant.count));
    }

pub returns-clause-taken : goal.returns-clause-taken
returns-clause-taken c =
    let none = at_drop_all (λ ts. commitments_in c.args.prices.now c.loop-table.rows (map (λ t. table_view t.now) ts)) c.args.tables.now c.loop-table.table-index c.loop-table-test.false in
    sym c.loop-table.invariant.read ∙ none

pub returns-in_err-row-clause-refused : goal.returns-in_err-row-clause-refused
returns-in_err-row-clause-refused c =
    let prices = c.args.prices.now in
    let read = c.loop-table.rows in
    let tables = c.args.tables.now in
    let at = c.loop-table.table-index in
    let table = c.table-item.result in
    let rest = at_drop_more (λ ts. commitments_in prices read (map (λ t. table_view t.now) ts)) tables at table c.loop-table-test.true in
    let first = ap (λ t. commitments_in prices read (table_view t.now ∷ map (λ t. table_view t.now) (drop (at + 1) tables))) (sym c.table-item.is) in
    handed_on _ c.from_residual.result _ c.from_residual.ensures (λ other.
    sym c.loop-table.invariant.read ∙ rest ∙ first
    ∙ commitment_fault prices read (table_view table.now) (map (λ t. table_view t.now) (drop (at + 1) tables)) c.in_err-row.field-0.0 (c.in_err-row.ensures.refused other))

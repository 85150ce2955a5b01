-- One row more, read and put into the index.
use Rattle.std.proofs.Common.{◌+◌, ◌∷◌, map, drop, sym, ap, ◌∙◌}
use Rattle.std.proofs.lemmas.List.{at_drop_more, at_drop_all}
use Rattle.toml.specs.View.{table_view}
use Rattle.price_sheet.specs.SheetReading.{prices_in}
use Rattle.price_sheet.proofs.Chains.{handed_on}
use Rattle.price_sheet.proofs.LookLaws.{prices_behind, price_fault}
use Rattle.price_sheet.proofs.price_table.PriceTable.read.Goals as goal

pub loop-table-preserved : goal.loop-table-preserved
loop-table-preserved c =
    let read = c.loop-table.rows.items in
    let tables = c.args.tables.now in
    let at = c.loop-table.table-index in
    let table = c.table-item.result in
    let more = prices_behind read (table_view table.now) c.put_next_price.new.rows.items (map (λ t. table_view t.now) (drop (at + 1) tables)) c.in_ok-put_next_price.ensures.taken in
    let rest = at_drop_more (λ ts. prices_in read (map (λ t. table_view t.now) ts)) tables at table c.loop-table-test.true in
    let first = ap (λ t. prices_in read (table_view t.now ∷ map (λ t. table_view t.now) (drop (at + 1) tables))) (sym c.table-item.is) in
    record {
      read = more.0 ∙ sym first ∙ sym rest ∙ c.loop-table.invariant.read;
      count = more.1 ∙ ap (λ n. n + 1) c.loop-table.invariant.count;
      indexed = c.in_ok-put_next_price.ensures.indexed;
    }

pub returns-clause-taken : goal.returns-clause-taken
returns-clause-taken c =
    let none = at_drop_all (λ ts. prices_in c.loop-table.rows.items (map (λ t. table_view t.now) ts)) c.args.tables.now c.loop-table.table-index c.loop-table-test.false in
    sym c.loop-table.invariant.read ∙ none

pub returns-in_err-put_next_price-clause-refused : goal.returns-in_err-put_next_price-clause-refused
returns-in_err-put_next_price-clause-refused c =
    let read = c.loop-table.rows.items in
    let tables = c.args.tables.now in
    let at = c.loop-table.table-index in
    let table = c.table-item.result in
    let later = map (λ t. table_view t.now) (drop (at + 1) tables) in
    let rest = at_drop_more (λ ts. prices_in read (map (λ t. table_view t.now) ts)) tables at table c.loop-table-test.true in
    let first = ap (λ t. prices_in read (table_view t.now ∷ map (λ t. table_view t.now) (drop (at + 1) tables))) (sym c.table-item.is) in
    handed_on _ c.from_residual.result _ c.from_residual.ensures (λ other. sym c.loop-table.invariant.read ∙ rest ∙ first ∙ price_fault read (table_view table.now) later c.in_err-put_next_price.field-0.0 (c.in_err-put_next_price.ensures.refused other))

use Rattle.std.proofs.Common.{◌≡◌, [], drop, map, length}
use Rattle.toml.specs.View.{table_view}
use Rattle.price_sheet.specs.SheetReading.{prices_in}
use Rattle.price_sheet.specs.Inner.Places.{IndexesPrices}
use Rattle.price_sheet.proofs.price_table.PriceTable.read.Given as goal

abbrev pub invariant-loop-table : goal.invariant-loop-table
invariant-loop-table l = record {
  read : prices_in l.rows.items (map (λ t. table_view t.now) (drop l.table-index l.tables)) ≡ prices_in [] (map (λ t. table_view t.now) l.tables);
  count : length l.rows.items ≡ l.table-index;
  indexed : IndexesPrices l.rows.items l.index.starts.entries;
}

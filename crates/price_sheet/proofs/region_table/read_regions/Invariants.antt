use Rattle.std.proofs.Common.{◌≡◌, [], drop, map, length}
use Rattle.toml.specs.View.{table_view}
use Rattle.price_sheet.specs.SheetReading.{regions_in}
use Rattle.price_sheet.proofs.region_table.read_regions.Given as goal

abbrev pub invariant-loop-table : goal.invariant-loop-table
invariant-loop-table l = record {
  read : regions_in l.rows (map (λ t. table_view t.now) (drop l.table-index l.tables)) ≡ regions_in [] (map (λ t. table_view t.now) l.tables);
  count : length l.rows ≡ l.table-index;
}

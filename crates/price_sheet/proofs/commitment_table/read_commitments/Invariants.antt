use Rattle.std.proofs.Common.{◌≡◌, [], drop, map, length}
use Rattle.toml.specs.View.{table_view}
use Rattle.price_sheet.specs.SheetReading.{commitments_in}
use Rattle.price_sheet.proofs.commitment_table.read_commitments.Given as goal

abbrev pub invariant-loop-table : goal.invariant-loop-table
invariant-loop-table l = record {
  read : commitments_in l.prices l.rows (map (λ t. table_view t.now) (drop l.table-index l.tables)) ≡ commitments_in l.prices [] (map (λ t. table_view t.now) l.tables);
  count : length l.rows ≡ l.table-index;
}

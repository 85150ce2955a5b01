use Rattle.std.proofs.Common.{◌≡◌, map, drop}
use Rattle.toml.specs.View.{table_view, items_view}
use Rattle.sheet_text.specs.Keys.{tables_in}
use Rattle.sheet_text.proofs.Tables.{with_rows}
use Rattle.sheet_text.proofs.keys.tables_in.Given as goal

abbrev pub invariant-loop-value : goal.invariant-loop-value
invariant-loop-value l = with_rows (map (λ t. table_view t.now) l.tables.items) (tables_in (items_view (drop l.value-index l.values.items))) ≡ tables_in (items_view l.values.items)

use Rattle.std.proofs.Common.{map}
use Rattle.toml.specs.View.{table_view}
use Rattle.fault_lines.specs.UnknownKeys.{with_rows}
use Rattle.fault_lines.proofs.KeyWalks.{no_row, one_row}
use Rattle.fault_lines.proofs.unknown_keys.add_rows.Goals as goal

pub loop-row-preserved : goal.loop-row-preserved
loop-row-preserved c =
    one_row (λ t. table_view t.now) c.args.taken.now c.args.table.now c.loop-row.found.items (with_rows c.args.taken.now c.args.table.now c.args.found.now.items (map (λ t. table_view t.now) c.args.rows.now))
    c.args.rows.now c.loop-row.row-index c.add_table.new.found.items c.row-item.result c.loop-row-test.true c.row-item.is c.in-Ok.ensures c.loop-row.invariant

pub returns : goal.returns
returns c =
    no_row (λ t. table_view t.now) c.args.taken.now c.args.table.now c.loop-row.found.items (with_rows c.args.taken.now c.args.table.now c.args.found.now.items (map (λ t. table_view t.now) c.args.rows.now))
    c.args.rows.now c.loop-row.row-index c.loop-row-test.false c.loop-row.invariant

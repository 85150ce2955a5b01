use Rattle.std.proofs.Common.{◌≡◌, drop, map}
use Rattle.toml.specs.View.{table_view}
use Rattle.fault_lines.specs.UnknownKeys.{with_rows}
use Rattle.fault_lines.proofs.unknown_keys.add_rows.Given as goal

-- The rows that are left add what is still to be added.
abbrev pub invariant-loop-row : goal.invariant-loop-row
invariant-loop-row l =
    with_rows l.taken l.table l.found.items (map (λ t. table_view t.now) (drop l.row-index l.rows))
    ≡ with_rows l.taken l.table l.fn.found.items (map (λ t. table_view t.now) l.rows)

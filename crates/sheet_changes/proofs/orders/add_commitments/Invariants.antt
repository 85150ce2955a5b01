use Rattle.std.proofs.Common.{◌≡◌, ◌++◌, map, take}
use Rattle.sheet_changes.proofs.orders.add_commitments.Given as goal

abbrev pub invariant-loop-row : goal.invariant-loop-row
invariant-loop-row l = map (λ id. id.now) l.ids.items ≡ map (λ id. id.now) l.fn.ids.items ++ map (λ row. row.id) (take l.row-index l.rows)

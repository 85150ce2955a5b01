use Rattle.std.proofs.Common.{◌≡◌, ◌++◌, map, take}
use Rattle.std.specs.List.{flat_map}
use Rattle.sheet_changes.specs.FieldChanges.{region_line}
use Rattle.sheet_changes.proofs.listings.put_names.Given as goal

abbrev pub invariant-loop-id : goal.invariant-loop-id
invariant-loop-id l = l.text.items ≡ l.fn.text.items ++ flat_map (region_line l.old l.new) (map (λ id. id.now) (take l.id-index l.ids))

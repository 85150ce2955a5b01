use Rattle.std.proofs.Common.{◌≡◌, ◌++◌, take}
use Rattle.sheet_changes.specs.Inner.Compared.{lines_of}
use Rattle.sheet_changes.specs.Regions.{is_added}
use Rattle.sheet_changes.proofs.regions.put_added.Given as goal

abbrev pub invariant-loop-region : goal.invariant-loop-region
invariant-loop-region l = l.text.items ≡ l.fn.text.items ++ lines_of (is_added l.old) (take l.region-index l.regions)

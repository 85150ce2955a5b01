use Rattle.std.proofs.Common.{◌≡◌, ◌++◌, take}
use Rattle.sheet_changes.specs.Inner.Compared.{lines_of}
use Rattle.sheet_changes.specs.Regions.{is_named_otherwise}
use Rattle.sheet_changes.proofs.regions.put_renamed.Given as goal

abbrev pub invariant-loop-region : goal.invariant-loop-region
invariant-loop-region l = l.text.items ≡ l.fn.text.items ++ lines_of (is_named_otherwise l.old l.new) (take l.region-index l.regions)

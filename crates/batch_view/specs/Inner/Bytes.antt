-- The bytes that a batch keeps, its own or shared.
use Rattle.std.specs.Prelude.{ℕ, ◌≤◌, List, length, ⊤}
use Rattle.std.specs.List.{slice_range}
use Rattle.std.specs.Arc.{arc_value}
use Rattle.batch_view.specs.declared.bytes.BatchBytes.{BatchBytes}
use Rattle.batch_view.specs.declared.bytes.BatchBytes.TheVariants.{Own, Within}

abbrev pub bytes_in : BatchBytes → List ℕ
bytes_in (Own bytes) = bytes.items
bytes_in (Within text from to) = slice_range (arc_value text).items from to

-- Both places are in the text, in order.
abbrev pub AreThere : BatchBytes → Type 0
AreThere (Own bytes) = ⊤
AreThere (Within text from to) = (from ≤ to) × (to ≤ length (arc_value text).items)

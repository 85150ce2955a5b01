-- Parts of batches, and the rooms that their lines are made in.
use Rattle.std.specs.Prelude.{ℕ, ◌*◌, List, take, drop}
use Rattle.std.specs.List.{flat_map}
use Rattle.metering_model.specs.Row.{Row}
use Rattle.export_file.specs.declared.split.Room.{Room}

-- the part of that number, where each but the last has `size` batches
abbrev pub part_of : List (List Row) → ℕ → ℕ → List (List Row)
part_of batches size k = take size (drop (k * size) batches)

-- the texts of rooms, in order
abbrev pub texts_in : List Room → List ℕ
texts_in rooms = flat_map (λ room. room.text.items) rooms

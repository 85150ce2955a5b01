use Rattle.std.proofs.Common.{◌≡◌, length}
use Rattle.export_file.proofs.split.make_rooms.Given as goal

abbrev pub invariant-loop-room : goal.invariant-loop-room
invariant-loop-room l = length l.rooms.items ≡ l._room

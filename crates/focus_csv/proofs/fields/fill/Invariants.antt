-- The pieces so far stand in front.
use Rattle.std.proofs.Common.{◌≡◌, ◌≤◌, length, map, take}
use Rattle.std.specs.List.{flat_map}
use Rattle.focus_csv.proofs.fields.fill.Given as goal

abbrev pub invariant-loop-piece : goal.invariant-loop-piece
invariant-loop-piece l = record {
  within : l.at ≤ length l.line;
  so_far : take l.at l.line ≡ flat_map (λ t. t) (map (λ p. p.now) (take l.piece-index l.pieces));
}

-- The fields so far were put.
use Rattle.std.proofs.Common.{◌≡◌, map, take}
use Rattle.focus_csv.specs.Inner.Runs.{behind}
use Rattle.focus_csv.proofs.fields.make_piece.Given as goal

abbrev pub invariant-loop-field : goal.invariant-loop-field
invariant-loop-field l = l.piece.items ≡ behind (map (λ f. f.now) (take l.field-index l.fields))

-- The lines of the rows so far were put, and the pieces, where they are held, are those of the row before.
use Rattle.std.proofs.Common.{◌≡◌, ◌∷◌, ◌++◌, map, take}
use Rattle.std.specs.Prelude.{IsTrue, slice_index_or}
use Rattle.std.specs.List.{flat_map}
use Rattle.metering_model.specs.File.{row_text}
use Rattle.focus_row.specs.Rows.{model_row}
use Rattle.focus_csv.specs.Inner.Pieces.{AreOf}
use Rattle.focus_csv.proofs.lines.put_lines.Given as goal

abbrev pub invariant-loop-i : goal.invariant-loop-i
invariant-loop-i l = record {
  text : l.text.items ≡ l.initial.text.items ++ flat_map row_text (map model_row (take l.i l.rows));
  before : l.before ≡ slice_index_or (l.last ∷ l.rows) l.i l.last;
  held : IsTrue l.pieces.are_held → AreOf l.pieces (model_row l.before);
}

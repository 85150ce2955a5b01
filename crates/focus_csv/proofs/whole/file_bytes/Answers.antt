-- The text before the rows' lines is the header line.
use Rattle.std.proofs.Common.{◌++◌, ◌∷◌, [], map, ap, ◌∙◌, append_assoc}
use Rattle.std.specs.List.{flat_map}
use Rattle.std.proofs.lemmas.Result.{IfOk-weaker}
use Rattle.metering_model.specs.File.{header_line, row_text}
use Rattle.focus_row.specs.Rows.{model_row}
use Rattle.focus_csv.proofs.whole.file_bytes.Goals as goal

pub returns : goal.returns
returns c =
    let lines = flat_map row_text (map model_row c.args.rows.now) in
    IfOk-weaker c.lines_behind.result _ _
    (λ v h. h ∙ ap (λ t. t ++ lines) c.header_text.ensures ∙ append_assoc header_line (10 ∷ []) lines) c.lines_behind.ensures

-- The texts of rows, one row after the other.
use Rattle.std.proofs.Common.{◌≡◌, ℕ, ◌+◌, ◌<◌, List, [], ◌∷◌, ◌++◌, length, map, take, get_or, sym, ap, ◌∙◌}
use Rattle.std.specs.List.{flat_map}
use Rattle.std.proofs.lemmas.List.{map-append, take_more}
use Rattle.metering_model.specs.File.{row_text}
use Rattle.focus_row.specs.Rows.{FocusRow}
use Rattle.focus_row.specs.Rows.{model_row}
use Rattle.focus_csv.proofs.OneMore.{each_more}

pub rows_more : (rows : List FocusRow) (i : ℕ) (row : FocusRow) → i < length rows → row ≡ get_or rows i row
    → flat_map row_text (map model_row (take i rows)) ++ row_text (model_row row) ≡ flat_map row_text (map model_row (take (i + 1) rows))
rows_more rows i row lt is =
    each_more row_text (map model_row (take i rows)) (model_row row)
    ∙ ap (flat_map row_text) (sym (map-append model_row (take i rows) (row ∷ []))
    ∙ ap (map model_row) (ap (λ r. take i rows ++ r ∷ []) is ∙ sym (take_more rows i row lt)))

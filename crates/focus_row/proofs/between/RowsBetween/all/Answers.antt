use Rattle.std.proofs.Common.{◌≡◌, ℕ, ◌+◌, ◌<◌, List, [], ◌∷◌, ◌++◌, length, map, take, get_or, sym, ap, ◌∙◌, arith}
use Rattle.std.proofs.lemmas.List.{append-nil, map-append, take_all, take_more}
use Rattle.std.proofs.lemmas.List.Concat.{flat_map-append}
use Rattle.metering_model.specs.Row.{Row}
use Rattle.charge_row.specs.FocusRows.{model_row}
use Rattle.charge_row.specs.declared.columns.FocusRow.{FocusRow}
use Rattle.focus_row.specs.Rows.{joined}
use Rattle.focus_row.proofs.RowBeginnings.{put_if}
use Rattle.focus_row.proofs.between.RowsBetween.all.Goals as goal

-- one batch more
joined_more : (bs : List (List Row)) (k : ℕ) (xs ys : List FocusRow) → k < length bs → map model_row ys ≡ get_or bs k [] → map model_row xs ≡ joined (take k bs)
    → map model_row (xs ++ ys) ≡ joined (take (k + 1) bs)
joined_more bs k xs ys within here so_far =
    let b = get_or bs k [] in
    map-append model_row xs ys
    ∙ ap (λ rs. rs ++ map model_row ys) so_far
    ∙ ap (λ rs. joined (take k bs) ++ rs) (here ∙ sym (append-nil b))
    ∙ sym (ap joined (take_more bs k [] within) ∙ flat_map-append (λ rs. rs) (take k bs) (b ∷ []))

pub loop-k-init : goal.loop-k-init
loop-k-init c = ap (map model_row) c.new-all.ensures.items

pub rows_of_batch-requires : goal.rows_of_batch-requires
rows_of_batch-requires c = omega (arith, c.loop-k-test.true, c.batches-k-end.ensures)

pub loop-k-preserved : goal.loop-k-preserved
loop-k-preserved c =
    let all = c.loop-k.all.items in
    let rows = c.in-Ok.rows.items in
    let here : map model_row rows ≡ get_or c.args.self.now c.loop-k.k [] = c.in-Ok.ensures in
    ap (map model_row) (put_if _ _ _ c.append.ensures.items c.is_err.ensures.negation c.if-is_err.false)
    ∙ joined_more c.args.self.now c.loop-k.k all rows (omega (arith, c.loop-k-test.true, c.batches-k-end.ensures)) here c.loop-k.invariant

pub returns : goal.returns
returns c = c.loop-k.invariant ∙ ap joined (take_all c.loop-k.k c.args.self.now (omega (arith, c.loop-k-test.false, c.batches-k-end.ensures)))

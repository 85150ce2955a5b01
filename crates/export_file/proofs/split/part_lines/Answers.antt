-- What was put behind nothing is the part.
use Rattle.std.proofs.Common.{◌≡◌, ◌+◌, ◌-◌, ◌++◌, min, take, drop, ap, ◌∙◌, arith}
use Rattle.focus_csv.specs.Rows.{batch_lines}
use Rattle.export_file.proofs.PartLaws.{part_is}
use Rattle.export_file.proofs.split.part_lines.Goals as goal

pub returns : goal.returns
returns c =
    let batches = c.args.batches.now in
    let from = c.part_start-from.result in
    let to = from + c.min.result in
    let ends : to ≡ from + min c.args.size (c.batches-all.result - from) = omega (arith, c.min.ensures) in
    c.in_ok-put_batches.ensures.put
    ∙ ap (λ t. t ++ batch_lines (take (to - from) (drop from batches))) c.text_for-text.ensures
    ∙ ap batch_lines (part_is batches c.args.size c.args.k c.batches-all.result from to c.batches-all.ensures c.part_start-from.ensures ends)

-- One more field.
use Rattle.std.proofs.Common.{◌<◌, [], ◌∷◌, length, rules, arith}
use Rattle.metering_model.specs.File.{quoted}
use Rattle.focus_csv.proofs.OneMore.{put_more}
use Rattle.focus_csv.proofs.fields.make_piece.Goals as goal

pub loop-field-preserved : goal.loop-field-preserved
loop-field-preserved c =
    let fields = c.args.fields.now in
    let within : c.loop-field.field-index < length fields = search (rules, arith) in
    put_more (λ f. 44 ∷ quoted f) (λ f. f.now) fields c.loop-field.field-index _ [] _ _ within c.in_ok-put_next.ensures c.loop-field.invariant

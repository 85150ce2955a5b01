use Rattle.std.proofs.Common.{[], ◌∷◌, ◌++◌, codes, take, ap, ◌∙◌}
use Rattle.metering_model.specs.Transcript.{with_number}
use Rattle.fault_lines.proofs.ToldPieces.{put_in_three}
use Rattle.fault_lines.proofs.ahead.put_start.Goals as goal

pub returns : goal.returns
returns c =
    let words = ap (λ t. c.put_place.new.told.items ++ (codes "ahead " ++ t)) c.day_part.ensures in
    put_in_three c.put_end.result c.args.told.now.items c.put_place.new.told.items c.put_both.new.told.items c.put_end.new.told.items
    (with_number (codes "line ") c.args.line ++ codes ": ") (codes "ahead " ++ take 10 c.args.start.now) (10 ∷ [])
    c.in-Ok.ensures (c.in-Ok-put_both.ensures ∙ words) c.put_end.ensures

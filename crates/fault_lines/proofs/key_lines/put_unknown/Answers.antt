use Rattle.std.proofs.Common.{[], ◌∷◌, ◌++◌, codes, map, ap, ◌∙◌}
use Rattle.metering_model.specs.Transcript.{with_number}
use Rattle.fault_lines.specs.UnknownKeys.{UnknownKey, shown}
use Rattle.fault_lines.proofs.ToldPieces.{put_in_three}
use Rattle.fault_lines.proofs.key_lines.put_unknown.Goals as goal

pub returns : goal.returns
returns c =
    let key = ap (λ (k : UnknownKey). c.put_place.new.told.items ++ (codes "unknown " ++ map shown k.name)) c.key.view_is in
    put_in_three c.put_end.result c.args.told.now.items c.put_place.new.told.items c.put_name.new.told.items c.put_end.new.told.items
    (with_number (codes "line ") c.args.line ++ codes ": ") (codes "unknown " ++ map shown c.args.key.now.name) (10 ∷ [])
    c.in-Ok.ensures (c.in-Ok-put_name.ensures ∙ key) c.put_end.ensures

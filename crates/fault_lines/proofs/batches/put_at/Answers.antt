use Rattle.std.proofs.Common.{[], ◌∷◌, ◌++◌, codes}
use Rattle.metering_model.specs.Transcript.{with_number}
use Rattle.fault_lines.specs.Told.{words_of}
use Rattle.fault_lines.proofs.ToldPieces.{put_in_three}
use Rattle.fault_lines.proofs.batches.put_at.Goals as goal

pub returns : goal.returns
returns c =
    put_in_three c.put_end.result c.args.told.now.items c.put_place.new.told.items c.put_words.new.told.items c.put_end.new.told.items
    (with_number (codes "line ") c.args.line ++ codes ": ") (words_of c.args.refusal) (10 ∷ [])
    c.in-Ok.ensures c.in-Ok-put_words.ensures c.put_end.ensures

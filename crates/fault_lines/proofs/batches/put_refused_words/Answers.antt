use Rattle.std.proofs.Common.{[], ◌∷◌}
use Rattle.fault_lines.specs.Told.{more_words, words_of}
use Rattle.fault_lines.proofs.ToldPieces.{put_three}
use Rattle.fault_lines.proofs.batches.put_refused_words.Goals as goal

pub returns : goal.returns
returns c =
    put_three c.put_end.result c.args.told.now.items c.put_words.new.told.items c.put_more.new.told.items c.put_end.new.told.items
    (words_of c.args.refusal) (more_words c.args.sheet.now c.args.text.now c.args.bad c.args.refusal) (10 ∷ [])
    c.in-Ok.ensures c.in-Ok-put_more.ensures c.put_end.ensures

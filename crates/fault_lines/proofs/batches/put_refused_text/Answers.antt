use Rattle.std.proofs.Common.{◌+◌, [], ◌∷◌, ◌++◌, codes, ap, ◌∙◌}
use Rattle.metering_model.specs.Transcript.{with_number}
use Rattle.fault_lines.specs.Told.{line_within, more_words, words_of}
use Rattle.fault_lines.proofs.ToldPieces.{put_behind}
use Rattle.fault_lines.proofs.batches.put_refused_text.Goals as goal

pub returns : goal.returns
returns c =
    let within = ap (λ n. c.args.told.now.items ++ (with_number (codes "line ") (c.args.lines + n) ++ codes ": ")) (c.from.ensures ∙ c.line_within-within.ensures) in
    put_behind c.put_refused_words.result c.args.told.now.items c.put_place.new.told.items c.put_refused_words.new.told.items
    (with_number (codes "line ") (c.args.lines + line_within c.args.bad c.args.refusal) ++ codes ": ") (words_of c.args.refusal) (more_words c.args.sheet.now c.args.text.now c.args.bad c.args.refusal) (10 ∷ [])
    (c.in-Ok.ensures ∙ within) c.put_refused_words.ensures

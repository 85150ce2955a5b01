use Rattle.std.proofs.Common.{codes, ◌++◌, ap, ◌∙◌}
use Rattle.metering_model.specs.Transcript.{line_count, with_number}
use Rattle.packet_text.proofs.Pieces.{then_ok}
use Rattle.process_text.proofs.Told.{below_put}
use Rattle.process_text.proofs.answers.put_kept_text.Goals as goal

pub returns : goal.returns
returns c =
    let word = codes "kept lines " in
    then_ok c.put_below.result _ _
    (below_put c.args.text.now.items c.put_kept.new.line.items c.put_below.new.text.items (with_number word (line_count c.args.kept.now)) c.args.kept.now
    (c.in-Ok.ensures ∙ ap (λ n. c.args.text.now.items ++ with_number word n) c.line_count.ensures))
    c.put_below.ensures

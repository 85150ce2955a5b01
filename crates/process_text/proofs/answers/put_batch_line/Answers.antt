use Rattle.std.proofs.Common.{codes, ◌++◌, ap, ◌∙◌}
use Rattle.log_text.specs.LogText.{section_line}
use Rattle.packet_text.proofs.Pieces.{then_ok}
use Rattle.process_text.proofs.Told.{batch_line}
use Rattle.process_text.proofs.answers.put_batch_line.Goals as goal

pub returns : goal.returns
returns c =
    let group = c.in-Ok-extend_from_slice.ensures.items ∙ ap (λ t. t ++ c.args.group.now) c.in-Ok.ensures.items in
    then_ok c.put_line.result _ _
    (λ put. put ∙ ap (λ t. t ++ section_line (codes "|batch|") c.args.lines) group ∙ batch_line c.args.text.now.items c.args.group.now c.args.lines)
    c.put_line.ensures

use Rattle.std.proofs.Common.{◌++◌, codes, ap, ◌∙◌, append_assoc}
use Rattle.metering_model.specs.Transcript.{line_count}
use Rattle.packet_text.proofs.Pieces.{then_ok}
use Rattle.log_text.specs.LogText.{section_line}
use Rattle.log_text.proofs.WrittenLines.{kept_put}
use Rattle.log_text.proofs.writing.put_kept.Goals as goal

pub returns-in-Ok-clause-put : goal.returns-in-Ok-clause-put
returns-in-Ok-clause-put c =
    let old = c.args.text.now.items in
    let written = c.deref.result.now in
    then_ok c.put_base.result _ _
    (λ put. put ∙ append_assoc old (section_line (codes "kept ") (line_count written)) written ∙ ap (λ t. old ++ t) (kept_put c.args.kept.now written (c.deref.ensures.value ∙ c.in-Ok.ensures))) c.put_base.ensures.put

use Rattle.std.proofs.Common.{◌++◌, ap₂, ◌∙◌}
use Rattle.std.specs.Prelude.{codes}
use Rattle.metering_model.specs.Transcript.{with_number}
use Rattle.schedule_player.proofs.Held.{on_ok_then}
use Rattle.schedule_player.proofs.Results.{on_ok}
use Rattle.schedule_player.proofs.reply_texts.put_exported.Goals as goal

pub returns-clause-file : goal.returns-clause-file
returns-clause-file c = on_ok c.put_exported.result c.in_ok-lines.ensures.file

pub returns-clause-line : goal.returns-clause-line
returns-clause-line c =
    let line = c.args.line.now.items in
    on_ok_then c.put_exported.result
    (λ e. e ∙ ap₂ (λ p n. line ++ (with_number (codes "exported period ") p ++ with_number (codes " lines ") n)) c.period.ensures c.in_ok-lines.ensures.lines)
    c.put_exported.ensures

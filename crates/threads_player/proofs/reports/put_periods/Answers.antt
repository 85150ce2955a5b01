use Rattle.std.proofs.Common.{◌++◌, map, ap, ◌∙◌, append_assoc}
use Rattle.node_threads.specs.Words.{log_of}
use Rattle.threads_player.specs.Reports.{period_text, told_in}
use Rattle.threads_player.proofs.Ranges.{texts_more}
use Rattle.threads_player.proofs.reports.put_periods.Goals as goal

pub loop-period-preserved : goal.loop-period-preserved
loop-period-preserved c =
    let f = period_text (told_in (map log_of c.args.logs.now)) in
    let before = c.args.text.now.items in
    c.in_ok-put_period.ensures ∙ ap (λ t. t ++ f c.loop-period.period) c.loop-period.invariant ∙ append_assoc before _ (f c.loop-period.period)
    ∙ ap (λ t. before ++ t) (texts_more f c.loop-period.period)

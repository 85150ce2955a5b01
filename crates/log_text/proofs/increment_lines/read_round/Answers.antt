use Rattle.std.proofs.Common.{sym, ap, ◌∙◌}
use Rattle.batch_store.proofs.CutTexts.{at_some}
use Rattle.log_text.specs.LogText.{round_in}
use Rattle.log_text.proofs.ReadFields.{round_alone}
use Rattle.log_text.proofs.increment_lines.read_round.Goals as goal

pub returns-then-is_some : goal.returns-then-is_some
returns-then-is_some c =
    let more = at_some c.split_at_bar.result _ _ c.split_at_bar.ensures (sym c.is_some.ensures ∙ c.if-is_some.true) in
    ap round_in more.1 ∙ round_alone more.0.0.now more.0.1.now

use Rattle.std.proofs.Common.{◌∙◌}
use Rattle.fx_money.proofs.Signs.{value_behind_minus}
use Rattle.fx_money.proofs.reading.signed.Goals as goal

pub returns-in-len1-up : goal.returns-in-len1-up
returns-in-len1-up c = c.negative.ensures ∙ value_behind_minus c.args.text.now c.if-first-eq45.true

use Rattle.std.proofs.Common.{rules}
use Rattle.record_view.specs.Inner.RecordSteps.{sign_step}
use Rattle.record_view.proofs.field_rules.check_sign.Goals as goal

pub returns : goal.returns
unfolding sign_step
returns c = search rules

use Rattle.std.proofs.Common.{ap, ◌∙◌}
use Rattle.std.proofs.lemmas.Result.{IfOk-weaker}
use Rattle.metering_model.specs.World as model
use Rattle.schedule_player.proofs.Offered.{offered}
use Rattle.schedule_player.proofs.events.offer_of.Goals as goal

pub returns : goal.returns
returns c =
    IfOk-weaker c.read.result _ _ (λ o is. offered c.in_ok-bytes.bytes.items o is ∙ ap model.offer_of c.in_ok-bytes.ensures.items) c.read.ensures.answer

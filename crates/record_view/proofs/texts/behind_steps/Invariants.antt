-- What was passed are texts.
use Rattle.std.proofs.Common.{◌≡◌, length}
use Rattle.metering_model.specs.Batch.{is_text}
use Rattle.record_view.proofs.texts.behind_steps.Given as goal

abbrev pub invariant-loop-rest : goal.invariant-loop-rest
invariant-loop-rest g l = is_text l.text ≡ is_text l.rest

abbrev pub decreases-loop-rest : goal.decreases-loop-rest
decreases-loop-rest g l = length l.rest

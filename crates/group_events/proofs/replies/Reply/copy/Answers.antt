-- A copy is of the same variant.
use Rattle.std.proofs.Common.{refl, ap, ◌∙◌}
use Rattle.metering_model.specs.World as model
use Rattle.group_events.proofs.replies.Reply.copy.Goals as goal

pub returns-in-Refused-clause-want : goal.returns-in-Refused-clause-want
returns-in-Refused-clause-want c = tt

pub returns-in-Journaled-clause-copy : goal.returns-in-Journaled-clause-copy
returns-in-Journaled-clause-copy c = rw c.in-Journaled.is refl

pub returns-in-Journaled-clause-want : goal.returns-in-Journaled-clause-want
returns-in-Journaled-clause-want c = tt

pub returns-in-Delivered-clause-copy : goal.returns-in-Delivered-clause-copy
returns-in-Delivered-clause-copy c = rw c.in-Delivered.is refl

pub returns-in-Delivered-clause-want : goal.returns-in-Delivered-clause-want
returns-in-Delivered-clause-want c = tt

pub returns-in-Started-clause-copy : goal.returns-in-Started-clause-copy
returns-in-Started-clause-copy c = rw c.in-Started.is refl

pub returns-in-Started-clause-want : goal.returns-in-Started-clause-want
returns-in-Started-clause-want c = tt

pub returns-in-Restarted-clause-copy : goal.returns-in-Restarted-clause-copy
returns-in-Restarted-clause-copy c = rw c.in-Restarted.is refl

pub returns-in-Restarted-clause-want : goal.returns-in-Restarted-clause-want
returns-in-Restarted-clause-want c = tt

pub returns-in-Ok-clause-copy : goal.returns-in-Ok-clause-copy
returns-in-Ok-clause-copy c = rw c.in-Exported.is (ap model.Exported c.in-Ok.ensures)

pub returns-in-Ok-clause-want : goal.returns-in-Ok-clause-want
returns-in-Ok-clause-want c = tt

pub returns-in-Err-clause-copy : goal.returns-in-Err-clause-copy
returns-in-Err-clause-copy c = tt

pub returns-in-Err-clause-want : goal.returns-in-Err-clause-want
returns-in-Err-clause-want c = rw c.in-Exported.is refl

pub returns-in-Ok-from_slice-clause-copy : goal.returns-in-Ok-from_slice-clause-copy
returns-in-Ok-from_slice-clause-copy c = rw c.in-KeptText.is (ap model.KeptText (c.in-Ok-from_slice.ensures.items ∙ c.deref.ensures.value))

pub returns-in-Ok-from_slice-clause-want : goal.returns-in-Ok-from_slice-clause-want
returns-in-Ok-from_slice-clause-want c = tt

pub returns-in-Err-from_slice-clause-copy : goal.returns-in-Err-from_slice-clause-copy
returns-in-Err-from_slice-clause-copy c = tt

pub returns-in-Err-from_slice-clause-want : goal.returns-in-Err-from_slice-clause-want
returns-in-Err-from_slice-clause-want c = rw c.in-KeptText.is refl

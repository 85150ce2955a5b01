-- Reading answers what a node keeps where the text is its text, and only there.
use Rattle.std.proofs.Common.{sym, ap, ◌∙◌}
use Rattle.metering_model.specs.declared.KeptTextFault.{KeptTextFault}
use Rattle.metering_model.specs.KeptText.{kept_in}
use Rattle.metering_model.proofs.StepLaws.{ok_same}
use Rattle.metering_model.proofs.KeptLaws.{kept_read, kept_written, kept_text_read, few_batches}
use Rattle.metering_model.proofs.laws.what_is_kept_is_read_where_its_parts_are_joined.Goals as goal

pub returns-clause-joined : goal.returns-clause-joined
returns-clause-joined c = λ text k. (kept_read text k, kept_text_read text k)

pub returns-clause-back : goal.returns-clause-back
returns-clause-back c = kept_written

pub returns-clause-one : goal.returns-clause-one
returns-clause-one c = λ k l h g e. ok_same {E = KeptTextFault} k l (sym (kept_written k h) ∙ (ap kept_in e ∙ kept_written l g))

pub returns-clause-few : goal.returns-clause-few
returns-clause-few c = few_batches

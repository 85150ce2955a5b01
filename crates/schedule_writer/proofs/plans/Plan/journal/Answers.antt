use Rattle.std.proofs.Common.{sym, ◌∙◌, ap}
use Rattle.std.specs.Arc.{arc_value}
use Rattle.metering_model.specs.BatchReading.{batch_in, is_same}
use Rattle.metering_model.proofs.FieldLaws.{same_read}
use Rattle.schedule_writer.proofs.PlanLaws.{next_is, offered_is}
use Rattle.schedule_writer.proofs.plans.Plan.journal.Goals as goal

pub returns-in-Ok : goal.returns-in-Ok
returns-in-Ok c =
    let text = c.args.text.now in
    let next = c.in-Some.next.now in
    let same = sym c.bytes.ensures.bytes ∙ same_read _ _ (sym c.is_same.ensures ∙ c.if-not-is_same.false) in
    record {
      event = offered_is _ text _ (c.in-Ok.ensures ∙ (sym c.deref.ensures ∙ same)) (ap batch_in (sym same) ∙ c.bytes.ensures.batch);
      next = sym (next_is c.args.self.now c.args.seen text next c.in-Some.ensures.lookup.3.0)
          ∙ (ap (λ b. is_same (arc_value b.batch) text) (sym c.in-Some.ensures.lookup.1)
          ∙ (ap (λ t. is_same t text) (sym (c.bytes.ensures.bytes ∙ c.deref.ensures)) ∙ (sym c.is_same.ensures ∙ c.if-not-is_same.false)));
    }

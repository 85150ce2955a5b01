use Rattle.std.proofs.Common.{◌∙◌, ap, sym, subst}
use Rattle.std.proofs.lemmas.Result.{IfOk-weaker}
use Rattle.metering_model.specs.Schedule.{event_of}
use Rattle.metering_model.specs.World.{Journal, offer_of}
use Rattle.schedule_reader.specs.Events.{planned_of}
use Rattle.schedule_writer.specs.Inner.Plans.{ComesNext, is_next, plan_of}
use Rattle.schedule_writer.proofs.certifying.event_for.Goals as goal

pub returns-in-Journal : goal.returns-in-Journal
returns-in-Journal c =
    let lines = rw c.in-Journal.is at c.requires in
    let event = ap (λ e. event_of (planned_of e)) c.in-Journal.is in
    record {
      event = IfOk-weaker c.journal.result _ _ (λ made is. is ∙ (ap (λ t. Journal (offer_of t)) (sym lines) ∙ sym event)) c.journal.ensures.event;
      next = IfOk-weaker c.journal.result _ _
          (λ made is. subst (λ e. ComesNext (plan_of c.args.plan.now) c.args.seen (planned_of e)) (sym c.in-Journal.is)
          (ap (λ t. is_next (plan_of c.args.plan.now) c.args.seen t) lines ∙ is)) c.journal.ensures.next;
    }

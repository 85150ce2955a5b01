use Rattle.std.proofs.Common.{Some, IfOk, IfErr, ap, subst, ◌∙◌}
use Rattle.schedule_writer.specs.Schedules.{IsScheduleOf}
use Rattle.schedule_writer.specs.Inner.Judged.{IsFaultOf}
use Rattle.schedule_writer.proofs.ScheduleLaws.{section_fault}
use Rattle.schedule_writer.proofs.writing.schedule_for_input.Goals as goal

pub returns-in-Ok-rate_input : goal.returns-in-Ok-rate_input
returns-in-Ok-rate_input c =
    let same = c.deref-input.ensures.value ∙ ap (λ v. v.items) (c.deref.ensures ∙ c.in-Ok.ensures.ok) in
    record {
      schedule = subst (λ t. IfOk c.schedule_of.result (λ made. IsScheduleOf c.args.request (Some t) t made.items)) same c.schedule_of.ensures.schedule;
      fault = subst (λ t. IfErr c.schedule_of.result (IsFaultOf t)) same c.schedule_of.ensures.fault;
    }

pub returns : goal.returns
returns c =
    let same = c.deref-input.ensures.value ∙ ap (λ v. v.items) (c.deref.ensures ∙ c.in-Ok.ensures.ok) in
    record {
      schedule = tt;
      fault = subst (λ t. IsFaultOf t c.refused_for.result) same
          (section_fault c.deref-input.result.now c.in-Err.fault c.refused_for.result c.in-Err.ensures.refused c.refused_for.ensures);
    }

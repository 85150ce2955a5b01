use Rattle.std.proofs.Common.{◌≡◌, Ok, length, refl, subst}
use Rattle.std.specs.Arc.{arc_value}
use Rattle.metering_model.specs.Sheet.{Issuer}
use Rattle.metering_model.specs.World.{opening}
use Rattle.schedule_reader.specs.Schedules.{events_in, preamble_in}
use Rattle.schedule_writer.specs.Inner.Plans.{IsDone, all_seen, nothing_seen, plan_of}
use Rattle.schedule_writer.proofs.PlanLaws.{certified}
use Rattle.schedule_writer.proofs.certifying.certify.Goals as goal

pub returns-then-is_done : goal.returns-then-is_done
returns-then-is_done c =
    let p = c.args.plan.now in
    let text = c.args.text.now in
    let events = c.in-Ok.events in
    let sheet = arc_value p.sheet.now in
    let issuer = arc_value c.args.issuer.now in
    let above = subst (λ (i : Issuer). preamble_in text ≡ Ok (record {
      voters = p.voters;
      observers = p.observers;
      agents = p.agents;
      sheet = sheet;
      issuer = i;
      rest = events;
    })) c.deref.ensures c.in-Ok.ensures in
    let done = subst (λ n. IsDone (plan_of p) nothing_seen n (opening p.voters p.observers p.agents sheet issuer) (events_in (length text) events))
    (c.is_done.ensures.0 c.if-is_done.true) c.in-Ok-do_behind.ensures in
    certified (plan_of p) text (record { voters = p.voters; observers = p.observers; agents = p.agents; sheet = sheet; issuer = issuer; rest = events })
    _ _ _ _ _ (all_seen (plan_of p)) above refl refl refl refl refl refl done

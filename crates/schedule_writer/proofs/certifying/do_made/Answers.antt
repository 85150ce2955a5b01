use Rattle.std.proofs.Common.{◌≡◌, Ok, Some, rules}
use Rattle.group_events.specs.Events.{event_of as offered_event}
use Rattle.group_events.specs.Replies.{reply_of}
use Rattle.schedule_reader.specs.Events.{planned_of}
use Rattle.schedule_writer.specs.Inner.Plans.{plan_of}
use Rattle.schedule_writer.proofs.PlanLaws.{behind_made, kept_journals}
use Rattle.schedule_writer.proofs.certifying.do_made.Goals as goal

pub returns-in-Ok-keep_batch : goal.returns-in-Ok-keep_batch
returns-in-Ok-keep_batch c =
    let plan = plan_of c.args.plan.now in
    let planned = planned_of c.args.planned.now in
    let event = offered_event c.args.event.now in
    let w = c.args.world.now in
    let before = c.args.journals.now.batches in
    let next = c.in-Ok-Some.next in
    let taken : c.behind-next.result ≡ Ok (Some next) = search rules in
    let made = behind_made plan c.args.seen next w c.step.new.self before (reply_of c.in-Ok.reply) planned event c.behind-next.result
    c.in-Ok.ensures.ok c.requires.event c.requires.same c.behind-next.ensures taken in
    record {
      seen = made.0;
      world = made.1;
      journals = kept_journals plan c.args.seen next w c.step.new.self planned event before c.keep_batch.new.journals.batches made.0 made.1 c.requires.event c.requires.same
          c.in-Ok-keep_batch.ensures;
    }

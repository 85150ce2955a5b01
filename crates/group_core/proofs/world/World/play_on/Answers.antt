use Rattle.std.proofs.Common.{map, arith, length-append}
use Rattle.std.proofs.lemmas.List.{map-append}
use Rattle.group_state.specs.Words.{event_of, reply_of}
use Rattle.group_core.proofs.Calls.{play_next}
use Rattle.group_core.proofs.world.World.play_on.Goals as goal

pub loop-event-preserved : goal.loop-event-preserved
loop-event-preserved c =
    let n = c.loop-event.invariant.count in
    record {
      run = rw (c.push_reserved.ensures.items, c.in_ok-reserve.ensures.items, map-append)
          (play_next event_of c.args.events.now c.loop-event.event-index c.event-item.result c.args.self.now c.loop-event.self c.step.new.self
          (map reply_of c.loop-event.replies.items)
          (reply_of c.in_ok-reply.reply) c.loop-event-test.true c.event-item.is c.loop-event.invariant.run c.in_ok-reply.ensures.ok);
      count = rw (c.push_reserved.ensures.items, c.in_ok-reserve.ensures.items, length-append) (omega (arith, n));
    }

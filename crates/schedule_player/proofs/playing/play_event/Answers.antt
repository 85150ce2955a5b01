use Rattle.std.proofs.Common.{rules}
use Rattle.group_events.specs.Replies.{reply_of}
use Rattle.schedule_player.proofs.Held.{fits, held_after, on_ok_then}
use Rattle.schedule_player.proofs.playing.play_event.Goals as goal

pub add-requires : goal.add-requires
add-requires c =
    record { fits = fits c.args.world.now c.step.new.self (reply_of c.in_ok-reply.reply) c.step.ensures.later.stay c.in_ok-reply.ensures.exports c.args.lines.now.held c.requires.held }

pub returns-clause-text : goal.returns-clause-text
returns-clause-text c = search rules

pub returns-clause-after : goal.returns-clause-after
returns-clause-after c =
    on_ok_then c.add.result
    (λ held. record {
      world = search rules;
      held = held_after c.args.world.now c.step.new.self (reply_of c.in_ok-reply.reply) c.step.ensures.later.stay c.in_ok-reply.ensures.exports c.args.lines.now.held c.add.new.self.held c.requires.held held;
    })
    c.add.ensures.held

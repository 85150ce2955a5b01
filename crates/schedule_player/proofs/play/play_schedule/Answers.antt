use Rattle.std.proofs.Common.{refl, inl, inr, subst}
use Rattle.std.proofs.KnownBytes.{Keeps-refl}
use Rattle.schedule_player.specs.Inner.Playing.{AppendsFirst, events_of, text_of}
use Rattle.schedule_player.specs.Inner.Writing.{Writes}
use Rattle.schedule_player.proofs.Answered.{memory_no_write, others_memory}
use Rattle.schedule_player.proofs.play.play_schedule.Goals as goal

pub returns-in-Ok-clause-writes : goal.returns-in-Ok-clause-writes
returns-in-Ok-clause-writes g c =
    subst (λ w. Writes c.play_within.result (g.W.Sink.contents c.args.writer.now) (g.W.Sink.contents c.play_within.new.writer) (g.W.Sink.failed_calls c.args.writer.now)
    (g.W.Sink.failed_calls c.play_within.new.writer) (text_of w (events_of c.args.schedule.events.planned))) c.in-Ok.ensures c.play_within.ensures.writes

pub returns-in-Ok-clause-memory : goal.returns-in-Ok-clause-memory
returns-in-Ok-clause-memory g c = λ e.
    inr (subst (λ w. AppendsFirst (g.W.Sink.contents c.args.writer.now) (g.W.Sink.contents c.play_within.new.writer) w c.args.schedule.events.planned) c.in-Ok.ensures
    (c.play_within.ensures.memory e))

pub returns-in-Ok-clause-others : goal.returns-in-Ok-clause-others
returns-in-Ok-clause-others g c = c.play_within.ensures.others

pub returns-clause-writes : goal.returns-clause-writes
returns-clause-writes g c = record { written = tt; prefix = λ e. memory_no_write e; count = refl }

pub returns-clause-memory : goal.returns-clause-memory
returns-clause-memory g c = λ e. inl (Keeps-refl (g.W.Sink.contents c.args.writer.now))

pub returns-clause-others : goal.returns-clause-others
returns-clause-others g c = others_memory

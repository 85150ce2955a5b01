use Rattle.std.proofs.Common.{◌≡◌, ◌<◌, length}
use Rattle.schedule_player.specs.Inner.Held.{IsHeldOf}
use Rattle.schedule_player.specs.Inner.Playing.{IsTold, world_after}
use Rattle.schedule_player.proofs.playing.play_on.Given as goal

-- Of the transcript of the events so far some was written, and the rest waits, which is little; the world is that after them, no call
-- failed, and what is at hand is of this world.
abbrev pub invariant-loop-done : goal.invariant-loop-done
invariant-loop-done g l =
    IsTold (g.W.Sink.contents l.fn.writer) (g.W.Sink.contents l.writer) l.lines.text l.fn.world l.events.planned l.done
    × (l.world ≡ world_after l.fn.world l.events.planned l.done)
    × (g.W.Sink.failed_calls l.writer ≡ g.W.Sink.failed_calls l.fn.writer)
    × IsHeldOf l.world l.lines.held
    × (length l.lines.text < 65_536)

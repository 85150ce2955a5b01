use Rattle.std.proofs.Common.{sym, ◌∙◌}
use Rattle.schedule_player.proofs.Answered.{all_there, first_there, memory_no_write, not_err, others_memory, others_ok, others_write, write_no_memory}
use Rattle.schedule_player.proofs.play.play_within.Goals as goal

pub returns-in_default-clause-writes : goal.returns-in_default-clause-writes
returns-in_default-clause-writes g c =
    let fails = c.in_default.ensures.fails in
    record { written = tt; prefix = λ e. fails.prefix; count = fails.count }

pub returns-in_default-clause-memory : goal.returns-in_default-clause-memory
returns-in_default-clause-memory g c = λ e. write_no_memory e

pub returns-in_default-clause-others : goal.returns-in_default-clause-others
returns-in_default-clause-others g c = others_write

pub returns-then-done-len-clause-writes : goal.returns-then-done-len-clause-writes
returns-then-done-len-clause-writes g c =
    let so = c.in-Ok.ensures in
    record {
      written = all_there _ _ _ c.args.events.now.planned c.in-Ok.done (c.if-done-len.true ∙ c.len.ensures) so.played;
      prefix = λ e. not_err _ _ e;
      count = so.fails.count;
    }

pub returns-then-done-len-clause-memory : goal.returns-then-done-len-clause-memory
returns-then-done-len-clause-memory g c = λ e. not_err _ _ e

pub returns-then-done-len-clause-others : goal.returns-then-done-len-clause-others
returns-then-done-len-clause-others g c = others_ok _

pub returns-else-done-len-clause-writes : goal.returns-else-done-len-clause-writes
returns-else-done-len-clause-writes g c = record { written = tt; prefix = λ e. memory_no_write e; count = c.in-Ok.ensures.fails.count }

pub returns-else-done-len-clause-memory : goal.returns-else-done-len-clause-memory
returns-else-done-len-clause-memory g c = λ e.
    let so = c.in-Ok.ensures in
    first_there _ _ _ c.args.events.now.planned c.in-Ok.done so.within (λ all. c.if-done-len.false (all ∙ sym c.len.ensures)) so.played

pub returns-else-done-len-clause-others : goal.returns-else-done-len-clause-others
returns-else-done-len-clause-others g c = others_memory

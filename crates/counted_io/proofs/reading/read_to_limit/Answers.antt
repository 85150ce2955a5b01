use Rattle.std.proofs.Common.{rules, take-add}
use Rattle.std.proofs.KnownBytes.{Consumes-trans}
use Rattle.counted_io.proofs.reading.read_to_limit.Goals as goal

-- the bytes that came before are still at the front, and the new ones stand behind them
pub loop-filled-preserved : goal.loop-filled-preserved
loop-filled-preserved g c =
    let came = c.in_ok-count.ensures in
    record {
      within = search rules;
      bounded = search rules;
      consumed = rw (take-add c.loop-filled.filled c.in_ok-count.count c.read_block.new.bytes.items, came.before)
          (Consumes-trans _ _ _ _ _ c.loop-filled.invariant.consumed came.came.consumed);
      quiet = search rules;
    }

pub returns-then-count-eq0-clause-answer : goal.returns-then-count-eq0-clause-answer
returns-then-count-eq0-clause-answer g c = search rules

pub returns-then-count-eq0-clause-end : goal.returns-then-count-eq0-clause-end
returns-then-count-eq0-clause-end g c = search rules

pub returns-clause-taken : goal.returns-clause-taken
returns-clause-taken g c = search rules

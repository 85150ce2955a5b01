use Rattle.std.proofs.Common.{◌≡◌, ◌≤◌}
use Rattle.focus_row.specs.Inner.Left.{rows_left}
use Rattle.focus_row.proofs.between.BetweenCuts.next_stop.Given as goal

-- The agents so far have no row from the sequence on.
abbrev pub invariant-loop-own : goal.invariant-loop-own
invariant-loop-own l = record {
  from_first : 1 ≤ l.start;
  at_agent : l.own ≡ l.agent → l.start ≡ l.seq;
  left : rows_left l.self l.own l.start ≡ rows_left l.self l.agent l.seq;
}

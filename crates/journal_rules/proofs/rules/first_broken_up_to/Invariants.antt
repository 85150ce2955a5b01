use Rattle.std.proofs.Common.{◌≡◌}
use Rattle.journal_rules.specs.Inner.Left.{broken_left}
use Rattle.journal_rules.proofs.rules.first_broken_up_to.Given as goal

-- The agents so far break no rule.
abbrev pub invariant-loop-agent : goal.invariant-loop-agent
invariant-loop-agent l = broken_left l.sheet l.store.batches l.to 1 1 ≡ broken_left l.sheet l.store.batches l.to l.agent 1

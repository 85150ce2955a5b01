use Rattle.std.proofs.Common.{◌≡◌}
use Rattle.journal_rules.specs.Inner.Left.{broken_left}
use Rattle.journal_rules.proofs.rules.broken_of_agent.Given as goal

-- The batches so far break no rule.
abbrev pub invariant-loop-seq : goal.invariant-loop-seq
invariant-loop-seq l = broken_left l.sheet l.store.batches l.to l.agent 1 ≡ broken_left l.sheet l.store.batches l.to l.agent l.seq

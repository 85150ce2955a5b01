use Rattle.node_kept.proofs.ReadSteps.{ReadsOn}
use Rattle.node_kept.proofs.reading.read_batches.Given as goal

-- The first batches are read.
abbrev pub invariant-loop : goal.invariant-loop
invariant-loop l = ReadsOn l.text l.first l.agents l.count l.counter l.store l.last.agent l.last.seq l.line l.rest

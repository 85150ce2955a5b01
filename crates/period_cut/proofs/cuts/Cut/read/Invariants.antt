use Rattle.period_cut.proofs.CutTexts.{IsReadSoFar}
use Rattle.period_cut.proofs.cuts.Cut.read.Given as goal

-- The first sequences are read.
abbrev pub invariant-loop : goal.invariant-loop
invariant-loop l = IsReadSoFar l.agents l.line l.counter l.entries.items l.rest

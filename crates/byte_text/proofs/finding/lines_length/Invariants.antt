use Rattle.byte_text.specs.Lines.{IsPast}
use Rattle.byte_text.proofs.finding.lines_length.Given as goal

-- So many lines lie before the byte.
abbrev pub invariant-loop : goal.invariant-loop
invariant-loop l = IsPast l.text l.counter l.length

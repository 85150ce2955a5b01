-- Voters and observers are counted together.
use Rattle.std.proofs.Common.{rules, arith}
use Rattle.std.proofs.lemmas.Grind.{common_steps}
use Rattle.schedule_reader.proofs.lines.read_both.Goals as goal

pub returns-then-voters-observers-le-MOST_NODES-clause-within : goal.returns-then-voters-observers-le-MOST_NODES-clause-within
returns-then-voters-observers-le-MOST_NODES-clause-within c = search rules

pub returns-then-voters-observers-le-MOST_NODES-clause-value : goal.returns-then-voters-observers-le-MOST_NODES-clause-value
returns-then-voters-observers-le-MOST_NODES-clause-value c = grind (arith, common_steps)

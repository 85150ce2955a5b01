use Rattle.std.proofs.Common.{rules}
use Rattle.journal_rules.proofs.targets.comes_earlier.Goals as goal

pub returns-then-seq-place : goal.returns-then-seq-place
returns-then-seq-place c = search rules

pub returns-then-seq-place-2 : goal.returns-then-seq-place-2
returns-then-seq-place-2 c = search rules

pub returns-else-seq-place-2 : goal.returns-else-seq-place-2
returns-else-seq-place-2 c = search rules

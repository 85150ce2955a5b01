-- What the steps counted and what the last bytes have is all.
use Rattle.std.proofs.Common.{arith}
use Rattle.byte_text.proofs.finding.line_count.Goals as goal

pub returns-then-text-lt4 : goal.returns-then-text-lt4
returns-then-text-lt4 c = omega arith

pub returns : goal.returns
returns c = omega arith

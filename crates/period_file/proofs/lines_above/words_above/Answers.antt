-- The words above a file.
use Rattle.std.proofs.Common.{rules}
use Rattle.period_file.proofs.lines_above.words_above.Goals as goal

pub returns : goal.returns
returns c = search rules

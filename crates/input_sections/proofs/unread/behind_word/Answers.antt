use Rattle.std.proofs.Common.{arith}
use Rattle.input_sections.proofs.LineLaws.{begins_short}
use Rattle.input_sections.proofs.unread.behind_word.Goals as goal

pub returns-then-text-word : goal.returns-then-text-word
returns-then-text-word c = begins_short c.args.word.now c.args.text.now (omega arith)

-- The period and the lines of a file.
use Rattle.std.proofs.Common.{arith}
use Rattle.std.proofs.lemmas.Grind.{common_steps}
use Rattle.answer_words.proofs.replies.put_exported.Goals as goal

pub returns : goal.returns
returns c = grind (arith, common_steps) steps 2000000

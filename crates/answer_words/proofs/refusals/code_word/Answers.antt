-- The word of the tags.
use Rattle.std.proofs.Common.{rules}
use Rattle.answer_words.proofs.refusals.code_word.Goals as goal

pub returns-in-Tags-clause-word : goal.returns-in-Tags-clause-word
returns-in-Tags-clause-word c = search rules

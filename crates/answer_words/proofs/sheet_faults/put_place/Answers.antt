-- Which row of which table.
use Rattle.std.proofs.Common.{rules}
use Rattle.answer_words.proofs.sheet_faults.put_place.Goals as goal

pub returns-in-Price : goal.returns-in-Price
returns-in-Price c = search rules

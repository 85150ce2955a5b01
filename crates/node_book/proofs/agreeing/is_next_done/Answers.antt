-- Whether the next of what is brought back is of an entry.
use Rattle.std.proofs.Common.{arith}
use Rattle.std.proofs.lemmas.Grind.{elements}
use Rattle.node_book.proofs.agreeing.is_next_done.Goals as goal

pub returns-then-next-done : goal.returns-then-next-done
returns-then-next-done c = grind (arith, elements) steps 2000000

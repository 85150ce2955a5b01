use Rattle.std.proofs.Common.{sym, ap, ◌∙◌}
use Rattle.node_book.specs.Books.{Told, file_in}
use Rattle.node_book.specs.Kept.{bytes_in}
use Rattle.node_book.proofs.done.Done.file.Goals as goal

pub returns-in-None : goal.returns-in-None
returns-in-None c = ap (λ (t : Told). file_in t.reply) (sym c.self.view_is) ∙ (sym c.self.invariant ∙ ap bytes_in c.in-None.is)

-- What a run of a group's threads leaves behind, as plain data.
use Rattle.std.specs.Prelude.{List}
use Rattle.node_book.specs.Books.{Book, Log, Plan}

-- what the group was to do, the book that its workers acted on, and what each of them brought back
pub record Run : Type 0 where
  pub plan : Plan
  pub book : Book
  pub logs : List Log

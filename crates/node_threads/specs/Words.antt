-- What books, logs and plans stand for, passed on, so that a crate above needs no name of the crate below.
pub use Rattle.node_book.specs.Books.{Log, Told, file_in, opened}
pub use Rattle.node_book.specs.Logs.{log_of, plan_of}
pub use Rattle.node_book.specs.Agreement.{Agree, FilesAgree, is_export_of}
pub use Rattle.node_book.specs.Whole.{LeavesNothingOut}

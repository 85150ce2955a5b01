-- A writer of CSV that stands between two fields of a record.
use Rattle.std.specs.Prelude.{◌≡◌, ◌<◌, ℕ, [], Vec}
use Rattle.std.specs.declared.alloc.Global.{Global}
use Rattle.csv.specs.Writing.{default_writer, fields_written, writer_pending, writer_setup}
use Rattle.csv.specs.declared.writer.Writer.{Writer}

-- It has csv's usual setup, a field was written, and its own text has all that it wrote.
pub record IsReady (w : Writer (Vec ℕ Global)) : Type 0 where
  pub setup : writer_setup w ≡ default_writer
  pub some : 0 < fields_written w
  pub out : writer_pending w ≡ []

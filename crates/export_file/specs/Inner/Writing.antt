-- What writing a text leaves in a sink.
use Rattle.std.specs.Prelude.{◌≡◌, ℕ, List, Option, Result, Err, OnOk}
use Rattle.std.specs.Io.KnownBytes.{Appends}
use Rattle.counted_io.specs.Counts.{Rises, count_after}
use Rattle.counted_io.specs.Writing.{AppendsPrefix}
use Rattle.focus_csv.specs.Faults.{is_sink_fault}
use Rattle.focus_csv.specs.declared.CsvFault.{CsvFault}
use Rattle.focus_csv.specs.declared.CsvFault.TheVariants as fault

-- A text was written: with Ok all of it, and after `Write`, one failed call, a prefix of it. No other call failed.
pub record Writes {A : Type 0} (result : Result A CsvFault) (old new : Option (List ℕ)) (failed failed' : ℕ) (text : List ℕ) : Type 0 where
  pub written : OnOk result (Appends old new text)
  pub prefix : result ≡ Err fault.Write → AppendsPrefix old new text
  pub fault : result ≡ Err fault.Write → Rises failed failed'
  pub count : failed' ≡ count_after (is_sink_fault result) failed

-- The bytes of a plain text, which a reading's line is read by in one pass.
use Rattle.std.specs.Prelude.{◌≡◌, ℕ, Bool, ◌&&◌, ◌||◌, ◌==◌, nat_le, nat_lt, List, IsTrue, Ok}
use Rattle.std.specs.List.{list_all}
use Rattle.metering_model.specs.declared.Version.{Version}
use Rattle.metering_model.specs.Batch.{Reading, Reads}
use Rattle.metering_model.specs.BatchReading.{record_in, fields_in}

-- printable ASCII below the bar
abbrev pub is_plain_byte : ℕ → Bool
is_plain_byte c = nat_le 32 c && nat_lt c 124

abbrev pub is_plain : List ℕ → Bool
is_plain t = list_all is_plain_byte t

-- whether each byte of a line is plain or a bar
abbrev pub is_plain_line : List ℕ → Bool
is_plain_line t = list_all (λ c. is_plain_byte c || c == 124) t

-- The line is a reading in a batch of that format, and each of its bytes is plain or a bar.
pub record IsPlainReading (version : Version) (line : List ℕ) : Type 0 where
  pub plain : IsTrue (is_plain_line line)
  pub reading : Reading
  pub read : record_in version (fields_in line) ≡ Ok (Reads reading)

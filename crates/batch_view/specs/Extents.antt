-- How far the batch at the front of a text goes, by what its head line counts.
use Rattle.std.specs.Prelude.{ℕ, ◌+◌, ◌&&◌, nat_le, if◌then◌else◌, List, [], ◌∷◌, length, take, Option, Some, None}
use Rattle.std.specs.Option.{option_map, option_and_then}
use Rattle.std.specs.Result.{result_ok}
use Rattle.metering_model.specs.BatchReading.{fields_in, head_in, lines_in}
use Rattle.metering_model.specs.Schedule.{lines_text}
use Rattle.metering_model.specs.Limits.{most_batch_bytes}

-- how many lines a head line that comes first counts, itself among them
abbrev pub counted : List (List ℕ) → Option ℕ
counted [] = None
counted (l ∷ ls) = option_map (λ head. head.count + 1) (result_ok (head_in (fields_in l)))

-- the bytes of so many lines, where there are so many and they are no longer than a batch may be
abbrev pub batch_length : List (List ℕ) → ℕ → Option ℕ
batch_length ls n =
    if nat_le n (length ls) && nat_le (length (lines_text (take n ls))) most_batch_bytes then Some (length (lines_text (take n ls))) else None

abbrev pub extent_in : List ℕ → Option ℕ
extent_in text = option_and_then (batch_length (lines_in text).lines) (counted (lines_in text).lines)

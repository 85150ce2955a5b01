-- The batch that stands first in a text, by its head line.
use Rattle.std.specs.Prelude.{◌≡◌, ℕ, ◌+◌, ◌≤◌, ◌==◌, List, length, take, Some, Ok}
use Rattle.std.specs.List.{position}
use Rattle.metering_model.specs.BatchReading.{fields_in, head_in}
use Rattle.metering_model.specs.Limits.{most_batch_bytes}
use Rattle.batch_view.specs.Extents.{extent_in}
use Rattle.batch_view.specs.Inner.Lines.{head_line, BeginsWithHead}
use Rattle.batch_view.specs.declared.head.Head.{Head}

-- What stands before the first line feed of the text is this head, and the records begin behind it.
pub record IsHeadFirst (text : List ℕ) (h : Head) : Type 0 where
  pub feed : ℕ
  pub found : position (λ (c : ℕ). c == 10) text ≡ Some feed
  pub place : h.records_from ≡ feed + 1
  pub head : head_in (fields_in (take feed text)) ≡ Ok (head_line h)

-- The batch that stands first goes so far, and has this head.
pub record IsFirstBatch (text : List ℕ) (h : Head) (n : ℕ) : Type 0 where
  pub extent : extent_in text ≡ Some n
  pub within : n ≤ length text
  pub short : n ≤ most_batch_bytes
  pub head : BeginsWithHead (take n text) h

-- The faults that are told of a log.
use Rattle.std.specs.Prelude.{◌≡◌, ◌≤◌, ℕ, List, [], ◌∷◌, length, Result, Ok, Err}
use Rattle.metering_model.specs.BatchReading.{fields_in, lines_in}
use Rattle.log_text.specs.LogText.{LogHead, LogCode, BadHead, head_in, log_in, most_log_bytes}
use Rattle.log_text.specs.declared.faults.LogFault.{LogFault}
use Rattle.log_text.specs.declared.faults.LogFault.TheVariants.{Refused, OutOfMemory}

-- The fault is the first that the text has. Want of memory says nothing of it.
abbrev pub IsFaultOf : List ℕ → LogFault → Type 0
IsFaultOf text (Refused code line) = log_in text ≡ Err (record { code = code; line = line })
IsFaultOf text OutOfMemory = Unit {0}

-- what the first of these lines is read as
abbrev pub first_head : List (List ℕ) → Result LogHead LogCode
first_head [] = Err BadHead
first_head (l ∷ ls) = head_in (fields_in l)

-- The text is not too long, and begins with a head line.
pub record BeginsWithHead (text : List ℕ) : Type 0 where
  pub short : length text ≤ most_log_bytes
  pub head : LogHead
  pub read : first_head (lines_in text).lines ≡ Ok head

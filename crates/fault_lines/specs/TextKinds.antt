-- What a text is that is none of its kind: told behind the code of its first fault.
use Rattle.std.specs.Prelude.{ℕ, ◌-◌, nat_le, Bool, true, false, ◌||◌, if◌then◌else◌, List, [], ◌∷◌, length, drop, Option, Some, None, codes}
use Rattle.metering_model.specs.Batch.{is_empty}
use Rattle.metering_model.specs.BatchReading.{is_same}
use Rattle.metering_model.specs.declared.BatchCode.{BatchCode}
use Rattle.metering_model.specs.declared.BatchCode.TheVariants as code
use Rattle.metering_model.specs.declared.BatchFault.{BatchFault}
use Rattle.input_sections.specs.Sections.{begins_with}
use Rattle.fault_lines.specs.Fields.{line_at}

-- its last byte is a carriage return, as where lines end with two bytes
abbrev pub ends_with_return : List ℕ → Bool
ends_with_return line = is_same (drop (length line - 1) line) (13 ∷ [])

-- of a line, which has a line feed behind it, where it is there
abbrev pub return_words : Option (List ℕ) → List ℕ
return_words None = []
return_words (Some line) = if ends_with_return line then codes " carriage return" else []

abbrev pub is_byte_order_mark : List ℕ → Bool
is_byte_order_mark text = begins_with (239 ∷ 187 ∷ 191 ∷ []) text

-- the byte order mark of either order
abbrev pub is_utf16 : List ℕ → Bool
is_utf16 text = begins_with (255 ∷ 254 ∷ []) text || begins_with (254 ∷ 255 ∷ []) text

-- of a text whose first line is none of its kind, or is not looked at
abbrev pub kind_words : List ℕ → List ℕ
kind_words text =
    if is_empty text then codes " empty"
    else (if is_byte_order_mark text then codes " byte order mark" else (if is_utf16 text then codes " UTF-16" else return_words (line_at text 1)))

-- of a line that opens no section: what the text is, where it is the first, and else that it ends so
abbrev pub opening_words : List ℕ → ℕ → List ℕ
opening_words text n = if nat_le n 1 then kind_words text else return_words (line_at text n)

-- whether the code says that a text has no head line, or is too long for one to be looked at: V1, V8
abbrev pub is_of_head : BatchCode → Bool
is_of_head code.Head = true
is_of_head code.Count = false
is_of_head code.Fields = false
is_of_head code.Time = false
is_of_head code.Number = false
is_of_head code.Text = false
is_of_head code.Tags = false
is_of_head code.TooLong = true

-- of a text that is no batch: what it is, at V1 and V8, and else that the line that is told ends so
abbrev pub batch_words : List ℕ → BatchFault → List ℕ
batch_words text fault = if is_of_head fault.code then kind_words text else return_words (line_at text fault.line)

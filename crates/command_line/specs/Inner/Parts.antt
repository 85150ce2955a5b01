-- The parts of a fault's line: what is told in the words of `check` stands in a part of its own, and the line feed behind it.
use Rattle.std.specs.Prelude.{ℕ, List, [], ◌++◌, codes}
use Rattle.command_line.specs.Endings.{ending_line, message_of}
use Rattle.command_line.specs.declared.statuses.Fault.{Fault}
use Rattle.command_line.specs.declared.statuses.Fault.TheVariants.{Line, Play, Faults, File, Threads, Process, Unlike, Refused, TooLong, NotClosed}

abbrev pub first_words : Fault → List ℕ
first_words (Refused told) = []
first_words (Line fault) = message_of (Line fault)
first_words (Play fault) = message_of (Play fault)
first_words (Faults count) = message_of (Faults count)
first_words (File fault) = message_of (File fault)
first_words (Threads fault) = message_of (Threads fault)
first_words (Process fault) = message_of (Process fault)
first_words Unlike = message_of Unlike
first_words TooLong = message_of TooLong
first_words NotClosed = message_of NotClosed

abbrev pub first_part : Fault → List ℕ
first_part (Refused told) = codes "focusd: "
first_part (Line fault) = ending_line (Line fault)
first_part (Play fault) = ending_line (Play fault)
first_part (Faults count) = ending_line (Faults count)
first_part (File fault) = ending_line (File fault)
first_part (Threads fault) = ending_line (Threads fault)
first_part (Process fault) = ending_line (Process fault)
first_part Unlike = ending_line Unlike
first_part TooLong = ending_line TooLong
first_part NotClosed = ending_line NotClosed

abbrev pub told_part : Fault → List ℕ
told_part (Refused told) = told.items
told_part _ = []

abbrev pub end_part : Fault → List ℕ
end_part (Refused told) = codes "\n"
end_part _ = []

abbrev pub last_part : Fault → List ℕ
last_part fault = told_part fault ++ end_part fault

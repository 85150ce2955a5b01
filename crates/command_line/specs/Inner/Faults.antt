-- What a fault of `sheets` or of `schedule` is told as.
use Rattle.program_input.specs.declared.faults.PlayFault.TheVariants as play
use Rattle.schedule_writer.specs.declared.faults.WriteFault.{WriteFault}
use Rattle.schedule_writer.specs.declared.faults.WriteFault.TheVariants as written
use Rattle.sheet_changes.specs.declared.faults.SheetsFault.{SheetsFault}
use Rattle.sheet_changes.specs.declared.faults.SheetsFault.TheVariants as compared
use Rattle.command_line.specs.declared.statuses.Fault.{Fault}
use Rattle.command_line.specs.declared.statuses.Fault.TheVariants.{Play, Unlike, Refused, TooLong, NotClosed}

abbrev pub fault_of_schedule : WriteFault → Fault
fault_of_schedule written.Read = Play play.Read
fault_of_schedule (written.Refused told) = Refused told
fault_of_schedule written.TooLong = TooLong
fault_of_schedule written.NotClosed = NotClosed
fault_of_schedule written.Write = Play play.Write
fault_of_schedule written.OutOfMemory = Play play.OutOfMemory

abbrev pub fault_of_sheets : SheetsFault → Fault
fault_of_sheets (compared.Input fault) = Play fault
fault_of_sheets compared.Unlike = Unlike

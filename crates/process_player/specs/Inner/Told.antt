-- How faults of what stands below are told.
use Rattle.input_sections.specs.declared.faults.ScheduleFault.{ScheduleFault}
use Rattle.input_sections.specs.declared.faults.ScheduleFault.TheVariants as section
use Rattle.line_source.specs.declared.faults.SourceFault.{SourceFault}
use Rattle.line_source.specs.declared.faults.SourceFault.TheVariants as source
use Rattle.process_player.specs.declared.faults.ProcessFault.{ProcessFault}
use Rattle.process_player.specs.declared.faults.ProcessFault.TheVariants.{Read, Section, TooLong, OutOfMemory}

abbrev pub fault_of_section : ScheduleFault → ProcessFault
fault_of_section (section.Refused code line) = Section (section.Refused code line)
fault_of_section section.OutOfMemory = OutOfMemory

abbrev pub of_source : SourceFault → ProcessFault
of_source source.TooLong = TooLong
of_source source.Read = Read
of_source source.OutOfMemory = OutOfMemory

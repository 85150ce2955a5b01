-- What is refused as a section is refused as a sheet's.
use Rattle.std.proofs.Common.{rules}
use Rattle.input_sections.specs.Sections.{sheet_section}
use Rattle.input_sections.proofs.sections.read_sheet.Goals as goal

pub returns-in_err-section-clause-refused : goal.returns-in_err-section-clause-refused
unfolding sheet_section
returns-in_err-section-clause-refused c = search rules

-- Where bytes are left and none is a line feed, a line is missing.
use Rattle.std.proofs.Common.{rules}
use Rattle.input_sections.proofs.unread.code_of_end.Goals as goal

pub returns-in_default : goal.returns-in_default
returns-in_default c = search rules

use Rattle.std.proofs.Common.{rules}
use Rattle.fault_lines.proofs.text_kinds.batch_words.Goals as goal

pub returns-else-is_of_head : goal.returns-else-is_of_head
returns-else-is_of_head c = search rules

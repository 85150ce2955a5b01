use Rattle.std.proofs.Common.{rules}
use Rattle.command_line.proofs.statuses.status.Goals as goal

pub returns-in-Play-Read : goal.returns-in-Play-Read
returns-in-Play-Read c = search rules

pub returns-in-Line-OutOfMemory : goal.returns-in-Line-OutOfMemory
returns-in-Line-OutOfMemory c = search rules

pub returns-in-Line-OutOfMemory-2 : goal.returns-in-Line-OutOfMemory-2
returns-in-Line-OutOfMemory-2 c = search rules

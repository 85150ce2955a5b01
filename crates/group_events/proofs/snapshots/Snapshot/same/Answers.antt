use Rattle.std.proofs.Common.{rules}
use Rattle.group_events.proofs.snapshots.Snapshot.same.Goals as goal

pub returns-then-same-4 : goal.returns-then-same-4
returns-then-same-4 c = search rules

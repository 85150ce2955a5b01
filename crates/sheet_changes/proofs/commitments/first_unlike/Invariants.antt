use Rattle.std.proofs.Common.{All, take}
use Rattle.sheet_changes.specs.Inner.Compared.{HasSame}
use Rattle.sheet_changes.proofs.commitments.first_unlike.Given as goal

abbrev pub invariant-loop-commitment : goal.invariant-loop-commitment
invariant-loop-commitment l = All (HasSame l.old l.new) (take l.commitment-index l.commitments)

use Rattle.std.proofs.Common.{◌-◌, length}
use Rattle.record_view.specs.Inner.Plain.{stops_at}
use Rattle.byte_text.proofs.LaneLaws.{ArePassed}
use Rattle.record_view.proofs.plain.long_part_end.Given as goal

abbrev pub invariant-loop-at : goal.invariant-loop-at
invariant-loop-at l = ArePassed (stops_at 59) l.text l.at

abbrev pub decreases-loop-at : goal.decreases-loop-at
decreases-loop-at l = length l.text - l.at

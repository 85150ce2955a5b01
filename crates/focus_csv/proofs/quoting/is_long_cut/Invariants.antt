use Rattle.std.proofs.Common.{◌-◌, length}
use Rattle.byte_text.proofs.LaneLaws.{ArePassed}
use Rattle.focus_csv.specs.Inner.Quoting.{is_special}
use Rattle.focus_csv.proofs.quoting.is_long_cut.Given as goal

abbrev pub invariant-loop-at : goal.invariant-loop-at
invariant-loop-at l = ArePassed is_special l.field l.at

abbrev pub decreases-loop-at : goal.decreases-loop-at
decreases-loop-at l = length l.field - l.at

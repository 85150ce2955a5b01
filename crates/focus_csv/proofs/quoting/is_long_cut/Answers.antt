-- Each look passes its bytes or finds one at which a reader would cut.
use Rattle.std.proofs.Common.{arith}
use Rattle.byte_text.proofs.LaneLaws.{passed_more}
use Rattle.focus_csv.specs.Inner.Quoting.{is_special}
use Rattle.focus_csv.proofs.Looks.{in_next, in_last}
use Rattle.focus_csv.proofs.quoting.is_long_cut.Goals as goal

pub loop-at-init : goal.loop-at-init
loop-at-init c = (omega arith, λ k below. absurd (omega arith))

pub overflow_sub-field : goal.overflow_sub-field
overflow_sub-field c = c.loop-at.invariant.0

pub returns-then-run-lt-LANES : goal.returns-then-run-lt-LANES
returns-then-run-lt-LANES c =
    in_next is_special c.args.field.now c.loop-at.at c.run_of_many-run.result c.loop-at.invariant (omega arith) c.run_of_many-run.ensures c.if-run-lt-LANES.true

pub loop-at-smaller : goal.loop-at-smaller
loop-at-smaller c = omega arith

pub loop-at-preserved : goal.loop-at-preserved
loop-at-preserved c =
    passed_more is_special c.args.field.now c.loop-at.at c.run_of_many-run.result c.loop-at.invariant (omega arith) c.run_of_many-run.ensures (omega arith)

pub returns : goal.returns
returns c =
    in_last is_special c.args.field.now c.loop-at.at 16 c.run_of_many-run-2.result (omega arith) (omega arith) c.loop-at.invariant.1 c.run_of_many-run-2.ensures

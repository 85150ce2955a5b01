-- Each look passes its bytes or finds the first that ends a part.
use Rattle.std.proofs.Common.{arith}
use Rattle.record_view.specs.Inner.Plain.{stops_at}
use Rattle.byte_text.proofs.LaneLaws.{passed_more, stop_found, stop_in_last, no_stop_in_last}
use Rattle.record_view.proofs.plain.long_part_end.Goals as goal

pub loop-at-init : goal.loop-at-init
loop-at-init c = (omega arith, λ k below. absurd (omega arith))

pub overflow_sub-text : goal.overflow_sub-text
overflow_sub-text c = c.loop-at.invariant.0

pub returns-then-run-lt-LANES : goal.returns-then-run-lt-LANES
returns-then-run-lt-LANES c =
    stop_found (stops_at 59) c.args.text.now c.loop-at.at c.long_part_run-run.result c.loop-at.invariant (omega arith) c.long_part_run-run.ensures c.if-run-lt-LANES.true

pub loop-at-smaller : goal.loop-at-smaller
loop-at-smaller c = omega arith

pub loop-at-preserved : goal.loop-at-preserved
loop-at-preserved c =
    passed_more (stops_at 59) c.args.text.now c.loop-at.at c.long_part_run-run.result c.loop-at.invariant (omega arith) c.long_part_run-run.ensures (omega arith)

pub returns-then-run-lt-LANES-2 : goal.returns-then-run-lt-LANES-2
returns-then-run-lt-LANES-2 c =
    stop_in_last (stops_at 59) c.args.text.now c.loop-at.at c.long_part_run-run-2.result c.loop-at.invariant (omega arith) (omega arith)
    c.long_part_run-run-2.ensures c.if-run-lt-LANES-2.true

pub returns-else-run-lt-LANES-2 : goal.returns-else-run-lt-LANES-2
returns-else-run-lt-LANES-2 c =
    no_stop_in_last (stops_at 59) c.args.text.now c.loop-at.at c.long_part_run-run-2.result c.loop-at.invariant (omega arith) (omega arith)
    c.long_part_run-run-2.ensures (omega arith)

-- The last eight bytes hold all that are behind the first eight.
use Rattle.std.proofs.Common.{◌≤◌, ◌-◌, length, arith}
use Rattle.record_view.specs.Inner.Plain.{stops_at}
use Rattle.byte_text.proofs.LaneLaws.{rest_run, run_found, none_in_last}
use Rattle.record_view.proofs.plain.part_end_in_last.Goals as goal

pub returns-then-run-lt-FEW_LANES : goal.returns-then-run-lt-FEW_LANES
returns-then-run-lt-FEW_LANES c =
    let text = c.args.text.now in
    let run = c.part_run-run.result in
    let near : length text - 8 ≤ 8 = omega arith in
    run_found (stops_at 59) text 8 (length text - 8) 8 run near (omega arith) c.requires.passed
    (rest_run (stops_at 59) text (length text - 8) 8 run c.part_run-run.ensures) c.if-run-lt-FEW_LANES.true

pub returns-else-run-lt-FEW_LANES : goal.returns-else-run-lt-FEW_LANES
returns-else-run-lt-FEW_LANES c =
    let text = c.args.text.now in
    let run = c.part_run-run.result in
    let near : length text - 8 ≤ 8 = omega arith in
    none_in_last (stops_at 59) text 8 (length text - 8) 8 run near (omega arith) c.requires.passed
    (rest_run (stops_at 59) text (length text - 8) 8 run c.part_run-run.ensures) (omega arith)

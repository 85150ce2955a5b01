-- A run that ends among the first eight bytes ends at the first that stops it, and else it has passed them.
use Rattle.std.proofs.Common.{sym, arith}
use Rattle.record_view.specs.Inner.Plain.{stops_at}
use Rattle.byte_text.proofs.FirstPlace.{position_is}
use Rattle.record_view.proofs.plain.part_end.Goals as goal

pub returns-then-run-lt-FEW_LANES : goal.returns-then-run-lt-FEW_LANES
returns-then-run-lt-FEW_LANES c =
    let run = c.part_run-run.ensures in
    sym (position_is (stops_at 59) c.args.text.now c.part_run-run.result (omega arith) run.before (run.here (omega arith)))

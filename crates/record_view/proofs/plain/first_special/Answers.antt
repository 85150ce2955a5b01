-- A run that ends among the first sixteen bytes ends at the first that is not plain.
use Rattle.std.proofs.Common.{sym, arith}
use Rattle.record_view.specs.Inner.Plain.{stops_at}
use Rattle.byte_text.proofs.FirstPlace.{position_is}
use Rattle.record_view.proofs.plain.first_special.Goals as goal

pub returns-then-run-lt-LANES : goal.returns-then-run-lt-LANES
returns-then-run-lt-LANES c =
    let run = c.plain_run-run.ensures in
    sym (position_is (stops_at 124) c.args.text.now c.plain_run-run.result (omega arith) run.before (run.here (omega arith)))

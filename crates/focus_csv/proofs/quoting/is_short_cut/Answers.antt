-- The first eight bytes and the last eight are all of them.
use Rattle.std.proofs.Common.{arith}
use Rattle.focus_csv.specs.Inner.Quoting.{is_special}
use Rattle.focus_csv.proofs.Looks.{in_first, in_last, all_passed}
use Rattle.focus_csv.proofs.quoting.is_short_cut.Goals as goal

pub returns-then-first-lt-FEW_LANES : goal.returns-then-first-lt-FEW_LANES
returns-then-first-lt-FEW_LANES c =
    in_first is_special c.args.field.now 8 c.run_of_few-first.result (omega arith) c.run_of_few-first.ensures c.if-first-lt-FEW_LANES.true

pub returns : goal.returns
returns c =
    in_last is_special c.args.field.now 8 8 c.run_of_few-run.result (omega arith) (omega arith)
    (all_passed is_special c.args.field.now 8 c.run_of_few-first.result c.run_of_few-first.ensures c.if-first-lt-FEW_LANES.false) c.run_of_few-run.ensures

use Rattle.std.proofs.Common.{◌==◌, sym, arith}
use Rattle.byte_text.proofs.FirstPlace.{position_is}
use Rattle.byte_text.proofs.finding.find_long.Goals as goal

pub returns-then-run-lt32 : goal.returns-then-run-lt32
returns-then-run-lt32 c =
    let run = c.run_before-run.ensures in
    sym (position_is (λ x. x == c.args.byte) c.args.text.now c.run_before-run.result (omega arith) run.before (run.here (omega arith)))

-- The last bytes hold all that are behind the first ones.
use Rattle.std.proofs.Common.{ℕ, ◌==◌, ◌≤◌, ◌-◌, length, sym, arith}
use Rattle.byte_text.proofs.FirstPlace.{position_is}
use Rattle.byte_text.proofs.LaneLaws.{rest_run, run_found, none_in_last}
use Rattle.byte_text.proofs.finding.find_near.Goals as goal

pub returns-then-run : goal.returns-then-run
returns-then-run g c =
    let run = c.run_before-run.ensures in
    sym (position_is (λ (x : ℕ). x == c.args.byte) c.args.text.now c.run_before-run.result (omega arith) run.before (run.here (omega arith)))

pub returns-then-run-2 : goal.returns-then-run-2
returns-then-run-2 g c =
    let text = c.args.text.now in
    let many = g.row.LANES in
    let run = c.run_before-run-2.result in
    let near : length text - many ≤ many = omega arith in
    run_found (λ (x : ℕ). x == c.args.byte) text many (length text - many) many run near (omega arith) (λ k below. c.run_before-run.ensures.before k (omega arith))
    (rest_run (λ (x : ℕ). x == c.args.byte) text (length text - many) many run c.run_before-run-2.ensures) (omega arith)

pub returns-else-run-2 : goal.returns-else-run-2
returns-else-run-2 g c =
    let text = c.args.text.now in
    let many = g.row.LANES in
    let run = c.run_before-run-2.result in
    let near : length text - many ≤ many = omega arith in
    none_in_last (λ (x : ℕ). x == c.args.byte) text many (length text - many) many run near (omega arith) (λ k below. c.run_before-run.ensures.before k (omega arith))
    (rest_run (λ (x : ℕ). x == c.args.byte) text (length text - many) many run c.run_before-run-2.ensures) (omega arith)

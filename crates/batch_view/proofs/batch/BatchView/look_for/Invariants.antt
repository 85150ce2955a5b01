use Rattle.std.proofs.Common.{◌+◌}
use Rattle.batch_view.specs.Inner.Lines.{IsBehindLines}
use Rattle.batch_view.proofs.batch.BatchView.look_for.Given as goal

-- as many records lie before `at` as were passed over
abbrev pub invariant-loop : goal.invariant-loop
invariant-loop l = IsBehindLines l.self-inside.bytes.now (l.counter + 1) l.at

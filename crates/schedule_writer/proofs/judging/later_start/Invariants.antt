use Rattle.std.proofs.Common.{◌≡◌, ℕ, ◌<◌, ◌≤◌, false}
use Rattle.metering_model.specs.Front.{is_due}
use Rattle.batch_view.specs.Batches.{batch_of}
use Rattle.schedule_writer.proofs.judging.later_start.Given as goal

-- The batch is due for none of the periods so far.
abbrev pub invariant-loop-period : goal.invariant-loop-period
invariant-loop-period l = (p : ℕ) → l.before ≤ p → p < l.period → is_due l.sheet.base p (batch_of l.batch) ≡ false

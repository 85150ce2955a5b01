use Rattle.std.proofs.Common.{◌≡◌, ◌++◌, ◌-◌, List, [], Some, length}
use Rattle.metering_model.specs.Batch.{Batch}
use Rattle.fault_lines.specs.Ahead.{AreLatest, ahead_of_all}
use Rattle.schedule_writer.specs.Checks.{journaled_of, told_of_batches}
use Rattle.schedule_writer.specs.Inputs.{batches_of, items_in}
use Rattle.schedule_writer.specs.Inner.Walks.{IsPlace}
use Rattle.schedule_writer.proofs.checking.check_items.Given as goal

-- What was told so far stands before what is to be told of the items that are left, and what was warned of before what is to be warned
-- of behind the batches that were journaled.
abbrev pub invariant-loop : goal.invariant-loop
invariant-loop l =
    record {
      place : IsPlace l.input l.here (Some l.above);
      told : l.told.items ++ told_of_batches l.input l.world (batches_of (items_in (length l.input - l.counter) l.input l.here))
          ≡ l.fn.told.items ++ told_of_batches l.input l.fn.world (batches_of (items_in (length l.input) l.input l.fn.from));
      ahead : (before : List Batch) × AreLatest l.latest before
          × (l.warned.items ++ ahead_of_all before (journaled_of l.input l.world (batches_of (items_in (length l.input - l.counter) l.input l.here)))
          ≡ l.fn.warned.items ++ ahead_of_all [] (journaled_of l.input l.fn.world (batches_of (items_in (length l.input) l.input l.fn.from))));
    }

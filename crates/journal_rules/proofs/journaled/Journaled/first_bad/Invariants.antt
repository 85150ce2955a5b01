use Rattle.std.proofs.Common.{◌≡◌}
use Rattle.metering_model.specs.Holding.{placed}
use Rattle.metering_model.specs.JournalRules.{first_broken}
use Rattle.batch_store.specs.Asked.{asked_left}
use Rattle.batch_store.specs.Batches.{batch_of}
use Rattle.journal_rules.specs.FirstBad.{first_bad}
use Rattle.journal_rules.specs.Inner.Left.{placed_from}
use Rattle.journal_rules.proofs.journaled.Journaled.first_bad.Given as goal

-- The records so far break no rule.
abbrev pub invariant-loop-asked : goal.invariant-loop-asked
invariant-loop-asked l = record {
  can_next : (goal.iterator-loop-asked).can_next l.asked-iterator;
  is_finite : (goal.iterator-loop-asked).is_finite l.asked-iterator;
  batch : batch_of l.asked-iterator.bytes ≡ l.self.batch;
  index : l.asked-iterator.index ≡ l.index;
  rest : first_broken l.sheet l.self.batches (placed l.self.batch)
      ≡ first_broken l.sheet l.self.batches (placed_from l.self.batch.agent l.self.batch.seq l.index (asked_left l.asked-iterator));
  place : first_bad l.sheet l.self.batches (placed l.self.batch)
      ≡ first_bad l.sheet l.self.batches (placed_from l.self.batch.agent l.self.batch.seq l.index (asked_left l.asked-iterator));
}

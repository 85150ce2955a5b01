use Rattle.std.proofs.Common.{◌≡◌, ◌≤◌, length}
use Rattle.group_process.specs.Journals.{are_journaled_from, is_journal_of}
use Rattle.group_process.proofs.agents.is_journal_of.Given as goal

-- What is left decides. No batch has a sequence above 1,000,000.
abbrev pub invariant-loop-next : goal.invariant-loop-next
invariant-loop-next l = (is_journal_of l.agent l.store.batches ≡ are_journaled_from l.agent l.next l.batches) × (l.next ≤ 1_000_001)

abbrev pub decreases-loop-next : goal.decreases-loop-next
decreases-loop-next l = length l.batches

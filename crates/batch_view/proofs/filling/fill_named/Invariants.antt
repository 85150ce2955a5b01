use Rattle.std.proofs.Common.{◌<◌, ◌≤◌, ℕ, length, slice_index_or, None}
use Rattle.batch_view.proofs.FilledLaws.{IsFilledFrom}
use Rattle.batch_view.proofs.filling.fill_named.Given as goal

-- the values are those at first, filled in by the amendments from the place on
abbrev pub invariant-loop-left : goal.invariant-loop-left
invariant-loop-left l =
    (l.left ≤ l.initial.left) × ((k : ℕ) → k < length l.fn.values → IsFilledFrom l.sorted l.seq l.is_own l.left k (slice_index_or l.fn.values k None) (slice_index_or l.values k None))

abbrev pub decreases-loop-left : goal.decreases-loop-left
decreases-loop-left l = l.left

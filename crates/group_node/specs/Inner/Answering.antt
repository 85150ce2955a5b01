-- Which packets a node answers.
use Rattle.std.specs.Prelude.{ℕ, Bool, false, ◌==◌, ◌&&◌, Option, Some, None, slice_get}
use Rattle.std.specs.Option.{is_some}
use Rattle.metering_model.specs.Ballot.{Attempt, is_above, is_not_below}
use Rattle.metering_model.specs.World.{Node, current_period}
use Rattle.node_kept.specs.Promises.{proposes}

-- the node has learned that period
abbrev pub has_learned : ℕ → Node → Bool
has_learned period n = is_some (slice_get n.kept.learned period)

-- a ballot of its current period that it promises
abbrev pub promises : ℕ → ℕ → Node → Bool
promises period ballot n = (period == current_period n) && is_above ballot n.kept.acceptor.promised

-- a ballot of its current period that it accepts at
abbrev pub accepts : ℕ → ℕ → Node → Bool
accepts period ballot n = (period == current_period n) && is_not_below ballot n.kept.acceptor.promised

-- a promise of that node, for that ballot, makes the attempt send its proposal
abbrev pub completes : ℕ → ℕ → Option Attempt → Bool
completes from ballot None = false
completes from ballot (Some a) = (a.ballot == ballot) && proposes from a

-- a promise that makes the node send its proposal
abbrev pub proposes_at : ℕ → ℕ → ℕ → Node → Bool
proposes_at from period ballot n = (period == current_period n) && completes from ballot n.attempt

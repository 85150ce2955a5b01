-- What a step adds to the log of a node.
use Rattle.std.specs.Prelude.{◌≡◌, ◌-◌, true, length, Option, Some, None, slice_get}
use Rattle.std.specs.Option.{option_map}
use Rattle.metering_model.specs.Holding.{held}
use Rattle.metering_model.specs.KeptText.{KeptAmong}
use Rattle.log_text.specs.LogText.{Increment, BeginsRound, SetsBallots, Learns, Takes, HasIncrementText, among_with, goes_on}
use Rattle.group_process.specs.declared.added.Added.{Added}
use Rattle.group_process.specs.declared.added.Added.TheVariants.{Nothing, Round, Ballots, Learned, Batch}

-- the increment, of what is kept after the step
abbrev pub increment_after : Added → KeptAmong → Option Increment
increment_after Nothing k = None
increment_after Round k = Some (BeginsRound k.kept.round)
increment_after Ballots k = Some (SetsBallots (length k.kept.learned) k.kept.acceptor)
increment_after Learned k = option_map (Learns (length k.kept.learned - 1)) (slice_get k.kept.learned (length k.kept.learned - 1))
increment_after (Batch agent seq) k = option_map Takes (held k.kept.holding agent seq)

-- With the increment, which has a text and goes on from what was kept, that becomes what is kept now; without one it stayed.
abbrev pub AddsJust : (before after : KeptAmong) → Option Increment → Type 0
AddsJust before after None = after ≡ before
AddsJust before after (Some i) = HasIncrementText before.agents i × (goes_on i before ≡ true) × (among_with i before ≡ after)

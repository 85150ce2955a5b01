-- Some run of a group leads to a world.
use Rattle.std.specs.Prelude.{◌≡◌, ℕ, ◌+◌, ◌≤◌, List}
use Rattle.metering_model.specs.Dates.{IsBaseMonth}
use Rattle.metering_model.specs.Sheet.{Sheet, Issuer}
use Rattle.metering_model.specs.World.{World, Event, opening}
use Rattle.metering_model.specs.Step.{play}
use Rattle.metering_model.specs.Limits.{most_agents, most_nodes}

-- a group that may be opened: a voter at least, with the observers 99 nodes at most, 1 to 64 agents, and a sheet whose base
-- month may be one
pub record MayOpen (voters observers agents : ℕ) (sheet : Sheet) : Type 0 where
  pub voters_from : 1 ≤ voters
  pub nodes_to : voters + observers ≤ most_nodes
  pub agents_from : 1 ≤ agents
  pub agents_to : agents ≤ most_agents
  pub base : IsBaseMonth sheet.base

-- Such a group was opened, and after these events it is this world.
pub record IsReached (w : World) : Type 0 where
  pub voters : ℕ
  pub observers : ℕ
  pub agents : ℕ
  pub sheet : Sheet
  pub issuer : Issuer
  pub opened : MayOpen voters observers agents sheet
  pub events : List Event
  pub leads : (play (opening voters observers agents sheet issuer) events).1 ≡ w

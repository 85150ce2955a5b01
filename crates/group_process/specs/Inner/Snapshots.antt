-- What the file of a period is made of, up to the cut that was learned for it.
use Rattle.std.specs.Prelude.{ℕ}
use Rattle.metering_model.specs.Cut.{Cut}
use Rattle.metering_model.specs.Holding.{up_to}
use Rattle.metering_model.specs.Step.{cut_before}
use Rattle.metering_model.specs.World.{Node, Snapshot}
use Rattle.process_laws.specs.LocalSteps.{Group}

abbrev pub snapshot_up_to : Group → Node → (period : ℕ) → (to : Cut) → Snapshot
snapshot_up_to g n p to = record { period = p; from = cut_before g.agents n.kept.learned p; to = to; batches = up_to to n.kept.holding; sheet = g.sheet; issuer = g.issuer }

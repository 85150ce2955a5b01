-- Histories that one thread could have made.
use Rattle.std.specs.Prelude.{◌≡◌, List, map}
pub use Rattle.metering_model.specs.declared.Worker.{Worker}
use Rattle.metering_model.specs.World.{World, Event, Reply}
use Rattle.metering_model.specs.Step.{play}

pub record Entry : Type 0 where
  pub who : Worker
  pub event : Event
  pub reply : Reply

-- playing the history's events from the opening world gives the history's replies, and leads to the world reached
pub record IsLegal (opening : World) (history : List Entry) (reached : World) : Type 0 where
  pub replies : (play opening (map (λ e. e.event) history)).0 ≡ map (λ e. e.reply) history
  pub world : (play opening (map (λ e. e.event) history)).1 ≡ reached

-- What may be asked for.
use Rattle.std.specs.Prelude.{◌+◌, ◌≤◌, IfSome}
use Rattle.metering_model.specs.Limits.{last_period, most_nodes}
use Rattle.schedule_writer.specs.declared.asked.Request.{Request}

-- one voter at least, no more nodes in all than a group has, and one of its periods
pub record IsRequest (request : Request) : Type 0 where
  pub voters : 1 ≤ request.nodes
  pub nodes : request.nodes + request.observers ≤ most_nodes
  pub through : IfSome request.through (λ p. p ≤ last_period)

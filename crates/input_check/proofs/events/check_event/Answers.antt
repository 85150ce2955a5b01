use Rattle.std.proofs.Common.{◌≡◌, ◌++◌, List, ℕ, Ok, Err, Result, OnOk, sym, ap, ◌∙◌, append-nil}
use Rattle.metering_model.specs.Batch.{Batch}
use Rattle.metering_model.specs.Schedule.{Planned, PlansKeep, event_of}
use Rattle.metering_model.specs.Step.{step}
use Rattle.metering_model.specs.World.{Reply}
use Rattle.fault_lines.specs.Ahead.{ahead_of_all}
use Rattle.schedule_reader.specs.Events.{planned_of}
use Rattle.input_check.specs.Warnings.{if_journaled}
use Rattle.input_check.proofs.events.check_event.Goals as goal

-- a keep journals nothing
no_batch : {A E : Type 0} (r : Result A E) (warned : List ℕ) (journaled : List Batch) (line node : ℕ) (planned : Planned) (reply : Reply) → planned ≡ PlansKeep node
    → OnOk r (warned ≡ warned ++ ahead_of_all journaled (if_journaled line planned reply))
unfolding ahead_of_all
no_batch (Ok x) warned journaled line node planned reply is =
    sym (ap (λ (e : Planned). warned ++ ahead_of_all journaled (if_journaled line e reply)) is ∙ append-nil warned)
no_batch (Err e) warned journaled line node planned reply is = tt

pub returns-in-Keep-clause-ahead : goal.returns-in-Keep-clause-ahead
returns-in-Keep-clause-ahead c = λ journaled latest.
    let planned = planned_of c.args.planned.now in
    no_batch c.check_keep.result c.args.warned.now.items journaled c.args.line c.in-Keep.node planned (step c.args.world.now (event_of planned)).0 (ap planned_of c.in-Keep.is)

pub returns-in-Ok : goal.returns-in-Ok
returns-in-Ok c = record {
  said = c.check_made.ensures.said;
  ahead = c.check_made.ensures.ahead;
  latest = c.check_made.ensures.latest;
  world = c.check_made.ensures.world;
}

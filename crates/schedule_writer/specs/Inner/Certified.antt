-- A text that stood the test.
use Rattle.std.specs.Prelude.{◌≡◌, ℕ, List, Ok, Some}
use Rattle.metering_model.specs.Sheet.{Sheet, Issuer}
use Rattle.metering_model.specs.World.{opening}
use Rattle.schedule_reader.specs.Schedules.{ReadSchedule, schedule_in}
use Rattle.schedule_writer.specs.Inner.Plans.{Plan, all_seen, behind_all, nothing_seen}

-- the schedule is of a group of that size, by that sheet and that issuer
pub record IsOfGroup (r : ReadSchedule) (voters observers agents : ℕ) (sheet : Sheet) (issuer : Issuer) : Type 0 where
  pub has_voters : r.voters ≡ voters
  pub has_observers : r.observers ≡ observers
  pub has_agents : r.agents ≡ agents
  pub by_sheet : r.sheet ≡ sheet
  pub by_issuer : r.issuer ≡ issuer

-- The text is the schedule of a group of that size, by that sheet and that issuer, and a run of it does all that is planned.
pub record IsCertified (plan : Plan) (voters observers agents : ℕ) (sheet : Sheet) (issuer : Issuer) (text : List ℕ) : Type 0 where
  pub schedule : ReadSchedule
  pub is_read : schedule_in text ≡ Ok schedule
  pub group : IsOfGroup schedule voters observers agents sheet issuer
  pub done : behind_all plan nothing_seen (opening schedule.voters schedule.observers schedule.agents schedule.sheet schedule.issuer) schedule.events
      ≡ Some (all_seen plan)

use Rattle.process_laws.proofs.DoneByWorld.{is_done_by_world, more_acts_are_more_events}
use Rattle.process_laws.proofs.laws.processes_do_what_a_world_does.Goals as goal

pub returns-clause-done : goal.returns-clause-done
returns-clause-done c = is_done_by_world

pub returns-clause-goes_on : goal.returns-clause-goes_on
returns-clause-goes_on c = more_acts_are_more_events

use Rattle.input_check.proofs.NothingSaid.{plays, rates}
use Rattle.input_check.proofs.WarnedLaws.{no_rating_warned, no_schedule_warned, schedule_warned}
use Rattle.input_check.proofs.WarningLaws.{counts_what_is_journaled}
use Rattle.input_check.proofs.laws.nothing_is_refused_for_a_warning.Goals as goal

pub returns : goal.returns
returns c = record {
  rated = rates;
  played = plays;
  no_rating = no_rating_warned;
  no_schedule = no_schedule_warned;
  ahead = schedule_warned;
  counted = counts_what_is_journaled;
}

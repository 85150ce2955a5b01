use Rattle.input_check.proofs.EventLines.{begins_where_counted}
use Rattle.input_check.proofs.FirstBadLines.{refused_for_first}
use Rattle.input_check.proofs.FirstInJournals.{refused_for_first_there}
use Rattle.input_check.proofs.RefusedLaws.{played, rated}
use Rattle.input_check.proofs.laws.what_is_said_is_what_is_refused.Goals as goal

pub returns : goal.returns
returns c = record {
  rated = rated;
  played = played;
  lines = begins_where_counted;
  journaled = refused_for_first;
  scheduled = refused_for_first_there;
}

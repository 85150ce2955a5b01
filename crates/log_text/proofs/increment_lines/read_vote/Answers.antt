-- The ballot 0 is of no vote.
use Rattle.log_text.proofs.ReadFields.{no_vote}
use Rattle.log_text.proofs.increment_lines.read_vote.Goals as goal

pub returns-in_default-numbered : goal.returns-in_default-numbered
returns-in_default-numbered c =
    no_vote c.args.agents c.args.fields.now c.in-Some.ballot.now c.in-Some.cut.now c.in-Some-read_whole.number c.in-Some.ensures c.in-Some-read_whole.ensures.value c.in_default-numbered.ensures

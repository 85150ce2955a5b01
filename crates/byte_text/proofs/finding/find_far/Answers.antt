use Rattle.byte_text.proofs.FirstPlace.{first_byte}
use Rattle.byte_text.proofs.finding.find_far.Goals as goal

pub returns : goal.returns
returns c = first_byte _ c.args.text.now c.memchr.result c.memchr.ensures

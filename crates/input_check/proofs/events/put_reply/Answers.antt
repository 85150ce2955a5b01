use Rattle.std.proofs.Common.{ap}
use Rattle.schedule_player.specs.Replies.{reply_of}
use Rattle.input_check.proofs.events.put_reply.Goals as goal

pub put_refused-requires-clause-bad : goal.put_refused-requires-clause-bad
put_refused-requires-clause-bad c = c.requires.bad c.in-Refused.refusal (ap reply_of c.in-Refused.is)

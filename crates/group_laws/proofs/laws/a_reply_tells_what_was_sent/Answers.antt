use Rattle.group_laws.proofs.SentPackets.{sends_as_told}
use Rattle.group_laws.proofs.laws.a_reply_tells_what_was_sent.Goals as goal

pub returns : goal.returns
returns c = record { sent = sends_as_told }

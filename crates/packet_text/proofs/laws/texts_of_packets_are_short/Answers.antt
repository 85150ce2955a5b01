-- The longest line is a promise with a vote of 64 agents.
use Rattle.packet_text.proofs.PacketLengths.{lines_are_short, packets_are_short}
use Rattle.packet_text.proofs.laws.texts_of_packets_are_short.Goals as goal

pub returns-clause-lines : goal.returns-clause-lines
returns-clause-lines c = lines_are_short

pub returns-clause-all : goal.returns-clause-all
returns-clause-all c = packets_are_short

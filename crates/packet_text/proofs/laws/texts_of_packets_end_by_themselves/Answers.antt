-- The first line of a packet says where it ends.
use Rattle.packet_text.proofs.FirstPackets.{first_is_whole, first_read, first_written, piece_unread, texts_apart, whole_is_first}
use Rattle.packet_text.proofs.laws.texts_of_packets_end_by_themselves.Goals as goal

pub returns-clause-first : goal.returns-clause-first
returns-clause-first c = first_written

pub returns-clause-pieces : goal.returns-clause-pieces
returns-clause-pieces c = piece_unread

pub returns-clause-joined : goal.returns-clause-joined
returns-clause-joined c = first_read

pub returns-clause-apart : goal.returns-clause-apart
returns-clause-apart c = texts_apart

pub returns-clause-alone : goal.returns-clause-alone
returns-clause-alone c = λ text read. (whole_is_first text read, first_is_whole text read)

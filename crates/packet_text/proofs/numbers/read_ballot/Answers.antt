-- A ballot within the limits has its number.
use Rattle.std.proofs.Common.{rules}
use Rattle.packet_text.proofs.numbers.read_ballot.Goals as goal

pub returns : goal.returns
returns c = search rules

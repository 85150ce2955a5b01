use Rattle.std.proofs.Common.{arith}
use Rattle.packet_text.proofs.Fields.{some_field}
use Rattle.packet_text.proofs.numbers.count_fields.Goals as goal

pub returns : goal.returns
returns c = let more = some_field c.loop-count.rest.now in omega (arith, more)

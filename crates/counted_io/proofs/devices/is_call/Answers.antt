use Rattle.std.proofs.Common.{rules}
use Rattle.counted_io.proofs.devices.is_call.Goals as goal

pub returns : goal.returns
returns c = search rules

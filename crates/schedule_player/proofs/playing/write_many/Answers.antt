-- What waits is written where it is much.
use Rattle.std.proofs.Common.{rules}
use Rattle.schedule_player.proofs.playing.write_many.Goals as goal

pub returns-else-are_many-clause-few : goal.returns-else-are_many-clause-few
returns-else-are_many-clause-few g c = search rules

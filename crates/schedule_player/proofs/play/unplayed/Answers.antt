use Rattle.schedule_player.proofs.TranscriptLaws.{group_of}
use Rattle.schedule_player.proofs.play.unplayed.Goals as goal

pub returns-in-Ok-clause-want : goal.returns-in-Ok-clause-want
returns-in-Ok-clause-want c = λ is. group_of c.args.input.now _ c.in-Ok.ensures.taken

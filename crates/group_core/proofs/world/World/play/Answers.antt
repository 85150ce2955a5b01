use Rattle.std.proofs.lemmas.List.{length-map}
use Rattle.group_core.proofs.Calls.{headline, answers, later}
use Rattle.group_core.proofs.world.World.play.Goals as goal

pub returns-in-Ok-clause-headline : goal.returns-in-Ok-clause-headline
returns-in-Ok-clause-headline c = headline c.args.self.now c.play_on.new.self _ _ c.reached.ensures c.play_on.ensures.run

pub returns-in-Ok-clause-answers : goal.returns-in-Ok-clause-answers
returns-in-Ok-clause-answers c = rw length-map (answers c.args.self.now c.play_on.new.self _ _ c.reached.ensures c.play_on.ensures.run)

pub returns-in-Ok-clause-later : goal.returns-in-Ok-clause-later
returns-in-Ok-clause-later c = later c.args.self.now c.play_on.new.self _ _ c.reached.ensures c.play_on.ensures.run

pub returns-in-Err-clause-headline : goal.returns-in-Err-clause-headline
returns-in-Err-clause-headline c = headline c.args.self.now c.play_on.new.self _ _ c.reached.ensures c.play_on.ensures.run

pub returns-in-Err-clause-answers : goal.returns-in-Err-clause-answers
returns-in-Err-clause-answers c = rw length-map (answers c.args.self.now c.play_on.new.self _ _ c.reached.ensures c.play_on.ensures.run)

pub returns-in-Err-clause-later : goal.returns-in-Err-clause-later
returns-in-Err-clause-later c = later c.args.self.now c.play_on.new.self _ _ c.reached.ensures c.play_on.ensures.run

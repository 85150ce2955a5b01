use Rattle.metering_model.proofs.PlayLaws.{play-append, replies-append, play-last, replies-last}
use Rattle.metering_model.proofs.laws.one_more_event_is_one_more_step.Goals as goal

pub returns-clause-world : goal.returns-clause-world
returns-clause-world c = play-last

pub returns-clause-replies : goal.returns-clause-replies
returns-clause-replies c = replies-last

pub returns-clause-more : goal.returns-clause-more
returns-clause-more c = play-append

pub returns-clause-more_replies : goal.returns-clause-more_replies
returns-clause-more_replies c = replies-append

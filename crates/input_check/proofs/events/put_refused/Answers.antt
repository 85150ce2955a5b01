use Rattle.std.proofs.Common.{◌≡◌, Err, ap, ◌∙◌, subst, rules}
use Rattle.metering_model.specs.BatchReading.{batch_in, lines_in}
use Rattle.metering_model.specs.Schedule.{lines_text}
use Rattle.metering_model.specs.World.{Refused}
use Rattle.input_check.proofs.EventWords.{bad_batch_there}
use Rattle.input_check.proofs.events.put_refused.Goals as goal

pub put_refused_text-requires : goal.put_refused_text-requires
put_refused_text-requires c = λ fault same.
    let lines = rw c.in-Journal.is at c.requires.lines in
    let refused = rw c.in-Journal.is at c.requires.refused in
    subst (λ t. batch_in t ≡ Err fault) lines
    (bad_batch_there c.args.world.now (lines_text (lines_in c.in-Journal.text.now).lines) fault (refused ∙ ap Refused same))

pub returns-in-Deliver : goal.returns-in-Deliver
returns-in-Deliver c = search rules

use Rattle.std.proofs.Common.{◌∙◌}
use Rattle.schedule_writer.proofs.AnswerLaws.{bad_index_there}
use Rattle.schedule_writer.proofs.lines.bad_record.Goals as goal

pub returns-in-BadTarget : goal.returns-in-BadTarget
returns-in-BadTarget c = λ rule.
    (rw c.requires.event at c.bad_record.ensures) ∙ bad_index_there c.args.world.now c.args.text.now c.args.refusal c.requires.refused rule

use Rattle.std.proofs.Common.{ap, ◌∙◌}
use Rattle.metering_model.specs.Schedule.{event_of, lines_text}
use Rattle.input_check.specs.Inner.Replies.{breaks_rule}
use Rattle.input_check.proofs.EventWords.{bad_index_there}
use Rattle.input_check.proofs.SaidLaws.{in_any_case}
use Rattle.input_check.proofs.events.put_answer.Goals.{then-breaks_rule, else-breaks_rule}
use Rattle.input_check.proofs.events.put_answer.Goals as goal

pub put_reply-requires-clause-bad : goal.put_reply-requires-clause-bad
put_reply-requires-clause-bad c = λ why told ls plans rule.
    let event = c.requires.event ∙ ap event_of plans in
    let refused = rw plans at (c.requires.refused why told) in
    elim c.if-breaks_rule.branch [
      | then-breaks_rule w ↦ w.bad-is ∙ ((rw event at w.bad_record-bad.ensures) ∙ bad_index_there c.args.world.now (lines_text ls) why refused rule)
      | else-breaks_rule w ↦ absurd (let yes = c.breaks_rule.ensures ∙ (ap breaks_rule told ∙ rule) in let no = w.if-breaks_rule.false in cc)
    ]

pub returns : goal.returns
returns c = record {
  said = in_any_case c.put_ahead_of.result c.in_ok-put_reply.ensures;
  ahead = c.put_ahead_of.ensures.said;
  latest = c.put_ahead_of.ensures.latest;
}

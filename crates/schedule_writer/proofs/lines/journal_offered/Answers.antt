use Rattle.std.proofs.Common.{◌≡◌, sym, ap, subst, ◌∙◌}
use Rattle.metering_model.specs.Step.{step}
use Rattle.metering_model.specs.World.{World, Reply, Refused}
use Rattle.group_events.specs.Events.{event_of}
use Rattle.group_events.specs.Replies.{is_refused, reply_of}
use Rattle.schedule_writer.specs.Refusals.{IsJournaled, answer_to}
use Rattle.schedule_writer.specs.Inner.Plans.{offered_of}
use Rattle.schedule_writer.proofs.AnswerLaws.{bad_batch_there, nothing_told, refusal_told, stepped}
use Rattle.schedule_writer.proofs.lines.journal_offered.Goals as goal

pub returns-in-Err : goal.returns-in-Err
returns-in-Err c = record { told = tt; world = tt; journaled = tt; refused = tt }

pub returns-in-None : goal.returns-in-None
returns-in-None c =
    let w = c.args.world.now in
    let b = offered_of c.args.offered.now in
    let journaled = subst IsJournaled (stepped w c.step.new.self b (event_of c.args.event.now) (reply_of c.in-Ok.reply) c.in-Ok.ensures.ok c.requires.event) c.in-None.ensures in
    record {
      told = nothing_told c.args.input.now c.args.told.now.items w b journaled;
      world = ap (λ (o : Reply × World). o.1) (c.in-Ok.ensures.ok ∙ ap (step w) c.requires.event);
      journaled = λ is. journaled;
      refused = λ is. absurd (cc);
    }

pub bad_record-bad-requires-clause-refused : goal.bad_record-bad-requires-clause-refused
bad_record-bad-requires-clause-refused c =
    let w = c.args.world.now in
    let b = offered_of c.args.offered.now in
    let same = c.in-Ok.ensures.unchanged.refused (ap is_refused c.in-Some.ensures) in
    let answer : answer_to w b.text ≡ Refused c.in-Some.refusal
    = sym (stepped w c.step.new.self b (event_of c.args.event.now) (reply_of c.in-Ok.reply) c.in-Ok.ensures.ok c.requires.event) ∙ c.in-Some.ensures in
    subst (λ v. answer_to v b.text ≡ Refused c.in-Some.refusal) (sym same) answer

pub put_refusal-requires-clause-fault : goal.put_refusal-requires-clause-fault
put_refusal-requires-clause-fault c = λ fault is.
    let w = c.args.world.now in
    let b = offered_of c.args.offered.now in
    let answer : answer_to w b.text ≡ Refused c.in-Some.refusal
    = sym (stepped w c.step.new.self b (event_of c.args.event.now) (reply_of c.in-Ok.reply) c.in-Ok.ensures.ok c.requires.event) ∙ c.in-Some.ensures in
    bad_batch_there w b.text fault (answer ∙ ap Refused is)

pub returns-in-Ok-put_refusal : goal.returns-in-Ok-put_refusal
returns-in-Ok-put_refusal c =
    let w = c.args.world.now in
    let b = offered_of c.args.offered.now in
    let same = c.in-Ok.ensures.unchanged.refused (ap is_refused c.in-Some.ensures) in
    let answer : answer_to w b.text ≡ Refused c.in-Some.refusal
    = sym (stepped w c.step.new.self b (event_of c.args.event.now) (reply_of c.in-Ok.reply) c.in-Ok.ensures.ok c.requires.event) ∙ c.in-Some.ensures in
    record {
      told = refusal_told c.args.input.now c.args.told.now.items c.put_refusal.new.told.items w b c.in-Some.refusal answer (rw same at c.in-Ok-put_refusal.ensures);
      world = ap (λ (o : Reply × World). o.1) (c.in-Ok.ensures.ok ∙ ap (step w) c.requires.event);
      journaled = λ is. absurd (cc);
      refused = λ is. (c.in-Some.refusal, answer);
    }

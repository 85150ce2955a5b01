use Rattle.std.proofs.Common.{◌≡◌, ◌++◌, ℕ, List, OnOk, refl, sym, ap, ◌∙◌, subst}
use Rattle.metering_model.specs.Batch.{Batch}
use Rattle.metering_model.specs.Schedule.{event_of}
use Rattle.metering_model.specs.Step.{step}
use Rattle.metering_model.specs.World.{Reply, World}
use Rattle.group_events.specs.Replies.{reply_of}
use Rattle.schedule_reader.specs.Events.{planned_of}
use Rattle.fault_lines.specs.Ahead.{AreLatest, ahead_of_all}
use Rattle.input_check.specs.Checks.{said_of_reply}
use Rattle.input_check.specs.Inner.Counted.{with_counted}
use Rattle.input_check.proofs.CountedBatches.{counted_there}
use Rattle.input_check.proofs.SaidLaws.{in_any_case, on_ok, said_after}
use Rattle.input_check.proofs.events.check_made.Goals as goal

pub put_answer-requires-clause-refused : goal.put_answer-requires-clause-refused
put_answer-requires-clause-refused c = λ why told.
    let same = c.in_ok-reply.ensures.unchanged.refused (rw told refl) in
    let answer = ap (λ (o : Reply × World). o.0) (rw c.requires.event at c.in_ok-reply.ensures.ok) in
    ap (λ (v : World). (step v (event_of (planned_of c.args.planned.now))).0) same ∙ (sym answer ∙ told)

pub returns : goal.returns
returns c =
    let e = planned_of c.args.planned.now in
    let outcome = rw c.requires.event at c.in_ok-reply.ensures.ok in
    let answer = ap (λ (o : Reply × World). o.0) outcome in
    let same = counted_there c.args.line c.args.world.now e _ _ _ c.requires.event c.in_ok-reply.ensures.ok in
    record {
      said = on_ok c.put_answer.result
          (λ told. told
          ∙ ap (λ t. c.args.told.now.items ++ t)
          (said_after c.args.line c.args.world.now c.step.new.self e (reply_of c.in_ok-reply.reply) c.in_ok-reply.ensures.unchanged.refused
          ∙ ap (said_of_reply c.args.line c.args.world.now e) answer))
          c.put_answer.ensures.said;
      ahead = λ journaled latest.
          subst (λ (xs : List (ℕ × Batch)). OnOk c.put_answer.result (c.put_answer.new.warned.items ≡ c.args.warned.now.items ++ ahead_of_all journaled xs)) same
          (c.put_answer.ensures.ahead journaled latest);
      latest = λ journaled latest.
          subst (λ (xs : List (ℕ × Batch)). OnOk c.put_answer.result (AreLatest c.put_answer.new.latest (with_counted xs journaled))) same
          (c.put_answer.ensures.latest journaled latest);
      world = in_any_case c.put_answer.result (ap (λ (o : Reply × World). o.1) outcome);
    }

use Rattle.std.proofs.Common.{◌≡◌, subst, Ok, Err}
use Rattle.std.specs.Arc.{arc_value}
use Rattle.group_events.specs.Batches.{batch_of}
use Rattle.metering_model.specs.BatchReading.{batch_in}
use Rattle.metering_model.specs.Step.{on_batch}
use Rattle.group_events.specs.Replies.{reply_of}
use Rattle.group_state.proofs.Reaching.{limits_here}
use Rattle.group_state.proofs.Changes.{good_told}
use Rattle.group_state.proofs.state.GroupState.journal.Goals as goal

pub journal_refusal-requires : goal.journal_refusal-requires
journal_refusal-requires c = (limits_here c.args.self.now c.requires.reached).rules

pub returns-in-Some-clause-ok : goal.returns-in-Some-clause-ok
returns-in-Some-clause-ok c =
    let read = subst (λ t. batch_in t ≡ Ok (batch_of t)) c.deref.ensures c.bytes.ensures.batch in
    let told = subst (λ t. on_batch c.args.self.now (batch_of t) ≡ Err c.in-Some.refusal) c.deref-2.ensures c.in-Some.ensures in
    rw c.in-Good.is (good_told c.args.self.now (arc_value c.in-Good.batch) (batch_of (arc_value c.in-Good.batch)) (Err c.in-Some.refusal) read told)

pub returns-clause-ok : goal.returns-clause-ok
returns-clause-ok c =
    let read = subst (λ t. batch_in t ≡ Ok (batch_of t)) c.deref.ensures c.bytes.ensures.batch in
    rw c.in-Good.is (good_told c.args.self.now (arc_value c.in-Good.batch) (batch_of (arc_value c.in-Good.batch)) (Ok (reply_of c.in_ok-reply.reply, c.take.new.self)) read c.in_ok-reply.ensures.ok)

use Rattle.std.proofs.Common.{◌+◌, sym, ◌∙◌, arith}
use Rattle.batch_store.proofs.LastDue.{starts_where_due, late_where_not_due, due_one_more, late_beyond}
use Rattle.batch_store.proofs.stores.Store.last_due.Goals as goal

pub loop-seq-init : goal.loop-seq-init
loop-seq-init c = λ s above within. absurd (omega arith)

pub loop-seq-preserved : goal.loop-seq-preserved
loop-seq-preserved c =
    due_one_more c.args.moment c.args.self.now.batches c.args.agent c.args.after c.loop-seq.seq c.loop-seq.invariant
    (starts_where_due c.args.moment c.args.self.now.batches c.args.agent (c.loop-seq.seq + 1) (sym c.is_due_by.ensures ∙ c.if-not-is_due_by.false))

pub returns-then-not-is_due_by-clause-last : goal.returns-then-not-is_due_by-clause-last
returns-then-not-is_due_by-clause-last c = record {
  grows = omega arith;
  due = c.loop-seq.invariant;
  next = late_where_not_due c.args.moment c.args.self.now.batches c.args.agent (c.loop-seq.seq + 1) (sym c.is_due_by.ensures ∙ c.if-not-is_due_by.true);
}

pub returns-clause-last : goal.returns-clause-last
returns-clause-last c = record {
  grows = omega arith;
  due = λ s above within. c.loop-seq.invariant s above (omega arith);
  next = late_beyond c.args.moment c.args.self.now.batches c.args.agent 1_000_001 c.requires.stored.is_holding (omega arith);
}

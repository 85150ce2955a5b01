use Rattle.std.proofs.Common.{◌∙◌}
use Rattle.batch_view.specs.Batches.{batch_of}
use Rattle.batch_store.proofs.LastDue.{is_due_by-absent, is_due_by-held}
use Rattle.batch_store.proofs.stores.Store.is_due_by.Goals as goal

pub returns-in-Some : goal.returns-in-Some
returns-in-Some c = c.starts_before.ensures ∙ is_due_by-held c.args.moment c.args.self.now.batches c.args.agent c.args.seq (batch_of c.in-Some.batch.now) c.in-Some.ensures

pub returns-in-None : goal.returns-in-None
returns-in-None c = is_due_by-absent c.args.moment c.args.self.now.batches c.args.agent c.args.seq c.in-None.ensures

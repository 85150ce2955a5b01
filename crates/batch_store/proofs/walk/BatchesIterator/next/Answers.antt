use Rattle.std.proofs.Common.{◌+◌, ap, ◌∙◌, arith}
use Rattle.std.proofs.lemmas.Grind.{common_steps}
use Rattle.batch_view.specs.Batches.{batch_of}
use Rattle.batch_store.proofs.FromLemmas.{left_next, left_given}
use Rattle.batch_store.proofs.walk.BatchesIterator.next.Goals as goal

pub loop-index-preserved : goal.loop-index-preserved
loop-index-preserved c = left_next c.self.inside.shelves.now c.loop-index.index c.loop-index.from c.index-shelves-index.result _ (omega arith) c.index-shelves-index.is c.in-None.ensures c.loop-index.invariant

pub loop-index-init : goal.loop-index-init
loop-index-init c = c.self.view_is

pub returns-in-Some-clause-steps : goal.returns-in-Some-clause-steps
returns-in-Some-clause-steps c =
    let first = left_given c.self.inside.shelves.now c.loop-index.index c.loop-index.from (c.seq.result + 1) c.index-shelves-index.result c.args.self.now (batch_of c.in-Some.batch.now) (omega arith) c.index-shelves-index.is
    (ap (λ n. n + 1) (c.seq.ensures.value ∙ ap (λ t. (batch_of t).seq) c.view.ensures)) c.in-Some.ensures c.loop-index.invariant in
    grind (arith, common_steps)

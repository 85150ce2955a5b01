use Rattle.std.proofs.Common.{◌≡◌, sym, ◌∙◌, rules}
use Rattle.std.specs.Arc.{arc_value}
use Rattle.batch_view.specs.Batches.{batch_of}
use Rattle.batch_store.proofs.ShelfLemmas.{put_found}
use Rattle.batch_store.proofs.shelf.Shelf.put.Goals as goal

pub returns-then-is_some-clause-batches : goal.returns-then-is_some-clause-batches
returns-then-is_some-clause-batches c =
    let seq : c.seq-seq.result ≡ (batch_of (arc_value c.args.batch)).seq = search rules in
    put_found c.args.self.now (batch_of (arc_value c.args.batch)) c.seq-seq.result c.get.result c.get.ensures.rises c.requires seq c.get.ensures.batch (sym c.is_some.ensures ∙ c.if-is_some.true)

pub returns-clause-batches : goal.returns-clause-batches
returns-clause-batches c = search rules

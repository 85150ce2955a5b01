use Rattle.std.proofs.Common.{Ok, refl, take, sym, ap, ◌∙◌}
use Rattle.std.specs.Arc.{arc_value}
use Rattle.batch_store.specs.Batches.{batch_of}
use Rattle.node_kept.proofs.NextBatch.{no_extent, extent_within, good_next, bad_next}
use Rattle.node_kept.proofs.reading.read_batch.Goals as goal

pub returns-in-Ok-None : goal.returns-in-Ok-None
returns-in-Ok-None c = no_extent c.args.text.now c.args.line (rw c.in-Ok-None.field-0-is at c.in-Ok-None.ensures.answer)

pub split_at-requires : goal.split_at-requires
split_at-requires c =
    let first = rw c.in-Ok-Some.field-0-is at c.in-Ok-Some.ensures.answer in
    extent_within c.args.text.now c.in-Ok-Some.first.1 first.0

pub returns-in-Good : goal.returns-in-Good
returns-in-Good c =
    let n = c.in-Ok-Some.first.1 in
    let first = rw c.in-Ok-Some.field-0-is at c.in-Ok-Some.ensures.answer in
    let is = rw c.in-Good.is at first.1 in
    good_next c.args.text.now n (take n c.args.text.now) c.split_at.result.1.now (batch_of (arc_value c.in-Good.batch)) first.0 refl c.split_at.ensures.back (is.1 ∙ ap (λ bytes. Ok (batch_of bytes)) (sym is.0))

pub returns-in-Bad : goal.returns-in-Bad
returns-in-Bad c =
    let n = c.in-Ok-Some.first.1 in
    let first = rw c.in-Ok-Some.field-0-is at c.in-Ok-Some.ensures.answer in
    let is = rw c.in-Bad.is at first.1 in
    bad_next c.args.text.now c.args.line n (take n c.args.text.now) c.in-Bad.field-0 first.0 refl is

use Rattle.std.proofs.Common.{◌++◌, flat_map, ap, ◌∙◌}
use Rattle.metering_model.specs.Batch.{batch_text}
use Rattle.batch_store.specs.Batches.{batch_of}
use Rattle.node_kept.proofs.WriteSteps.{put_one_more, bytes_are_text}
use Rattle.node_kept.proofs.writing.put_batches.Goals as goal

pub loop-batch-preserved : goal.loop-batch-preserved
loop-batch-preserved c =
    let l = c.loop-batch in
    let left = c.next.new.self in
    ap (λ t. t ++ flat_map batch_text left) c.in_ok-extend_from_slice.ensures.items
    ∙ put_one_more l.text.items c.bytes.result.now _ l.batches left (batch_of c.in-Some.batch.now) c.in-Some.ensures.steps (c.bytes.ensures.bytes ∙ bytes_are_text _ c.bytes.ensures.batch) l.invariant

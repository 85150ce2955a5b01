use Rattle.std.proofs.Common.{◌==◌, None, slice_index_or, ap}
use Rattle.batch_view.specs.Inner.Bytes.{bytes_in}
use Rattle.batch_view.specs.Batches.{batch_of}
use Rattle.batch_view.proofs.FilledLaws.{later_filled, own_filled, still_there}
use Rattle.batch_view.proofs.owned.OwnedBatch.fill_given.Goals as goal

pub returns-clause-later : goal.returns-clause-later
returns-clause-later c = λ other k less.
    rw (← c.self.view_is)
    (later_filled (batch_of (bytes_in c.self.inside.bytes)) c.self.inside.amendments.items c.args.seq k (c.args.seq == c.self.inside.head.seq) (slice_index_or c.args.values.now k None) (slice_index_or c.fill_named.new.values k None)
    c.self.invariant.1.amendments (ap (λ n. c.args.seq == n) c.self.invariant.1.batch.head.seq) (rw c.self.view_is other) (rw c.deref.ensures.value at c.fill_named.ensures.filled k less))

pub returns-clause-own : goal.returns-clause-own
returns-clause-own c = λ same k r less got.
    rw (← c.self.view_is)
    (own_filled (batch_of (bytes_in c.self.inside.bytes)) c.self.inside.amendments.items c.args.seq k (c.args.seq == c.self.inside.head.seq) (slice_index_or c.args.values.now k None) (slice_index_or c.fill_named.new.values k None) r
    c.self.invariant.1.amendments (ap (λ n. c.args.seq == n) c.self.invariant.1.batch.head.seq) (rw (← c.self.view_is) at same) (rw (← c.self.view_is) at got) (rw c.deref.ensures.value at c.fill_named.ensures.filled k less))

pub returns-clause-kept : goal.returns-clause-kept
returns-clause-kept c = λ k v less stood. still_there _ _ _ _ (slice_index_or c.args.values.now k None) (slice_index_or c.fill_named.new.values k None) v stood (c.fill_named.ensures.filled k less)

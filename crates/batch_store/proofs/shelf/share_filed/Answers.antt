use Rattle.std.proofs.lemmas.Map.Iter.{rest_more}
use Rattle.std.specs.Map.Iter.{deref_pair}
use Rattle.batch_store.proofs.ShareLemmas.{one_more}
use Rattle.batch_store.proofs.shelf.share_filed.Goals as goal

pub loop-seq-preserved : goal.loop-seq-preserved
loop-seq-preserved c =
    one_more 1 c.args.last c.args.filed.now.entries c.loop-seq.part.entries c.next.new.self c.loop-seq.seq-iterator c.insert.new.self.entries
    (c.in-Some.seq.now, c.in-Some.batch.now) c.in_ok-try_clone.field-0 c.requires c.loop-seq.invariant
    (rest_more deref_pair c.loop-seq.seq-iterator c.next.new.self c.next.result
    (c.in-Some.seq, c.in-Some.batch) c.in-Some.is c.next.ensures.steps) c.in_ok-try_clone.ensures c.in_ok-insert.ensures.entries

pub loop-seq-preserved-in_ok-insert : goal.loop-seq-preserved-in_ok-insert
loop-seq-preserved-in_ok-insert c =
    one_more 1 c.args.last c.args.filed.now.entries c.loop-seq.part.entries c.next.new.self c.loop-seq.seq-iterator c.insert.new.self.entries
    (c.in-Some.seq.now, c.in-Some.batch.now) c.in_ok-try_clone.field-0 c.requires c.loop-seq.invariant
    (rest_more deref_pair c.loop-seq.seq-iterator c.next.new.self c.next.result
    (c.in-Some.seq, c.in-Some.batch) c.in-Some.is c.next.ensures.steps) c.in_ok-try_clone.ensures c.in_ok-insert.ensures.entries

use Rattle.std.proofs.Common.{MatchOption, subst}
use Rattle.batch_store.specs.Inner.Amenders.{IsLastAmender, NoneAmends}
use Rattle.batch_store.specs.Inner.Shelves.{at_seq}
use Rattle.batch_store.proofs.AmenderLemmas.{last_of_index}
use Rattle.batch_store.proofs.indexed.IndexedShelf.last_amender.Goals as goal

pub returns : goal.returns
returns c =
    subst (λ h. MatchOption c.last.result (NoneAmends (at_seq h) c.args.seq c.args.seq c.args.upto) (IsLastAmender (at_seq h) c.args.seq c.args.upto)) c.self.view_is
    (last_of_index c.self.inside.shelf c.self.inside.amenders c.args.seq c.args.upto c.last.result c.self.invariant c.last.ensures)

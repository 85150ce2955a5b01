use Rattle.std.specs.Arc.{arc_value}
use Rattle.node_kept.proofs.Limits.{good_same_at}
use Rattle.node_kept.proofs.offers.KeptOffer.same.Goals as goal

pub returns-in-Good-Good : goal.returns-in-Good-Good
returns-in-Good-Good c =
    rw (c.in-Good-Good.is-0, c.in-Good-Good.is-1)
    (good_same_at c.same.result c.deref.result.now c.deref-in-Good-Good.result.now (arc_value c.in-Good-Good.one) (arc_value c.in-Good-Good.two) c.deref.ensures c.deref-in-Good-Good.ensures c.same.ensures.texts c.same.ensures.same)

use Rattle.batch_view.specs.Inner.Bytes.{bytes_in}
use Rattle.batch_view.specs.Batches.{batch_of}
use Rattle.batch_view.proofs.GivenLaws.{unamended, amended, amended_later, own_later}
use Rattle.batch_view.proofs.owned.OwnedBatch.value_given.Goals as goal

pub returns-in_default : goal.returns-in_default
returns-in_default c =
    let none = rw c.deref.ensures.value at c.in_default.ensures in
    rw (← c.self.view_is)
    (unamended (batch_of (bytes_in c.self.inside.bytes)) c.self.inside.amendments.items c.self.invariant.1.amendments c.args.seq c.args.index c.own_value.result none
    (rw (← c.self.view_is) at c.own_value.ensures))

pub returns-then-amendment-index : goal.returns-then-amendment-index
returns-then-amendment-index c =
    let last = rw c.deref.ensures.value at c.in-Some.ensures in
    let has = rw (← c.self.view_is) at c.in-Some-own_value.ensures in
    rw (← c.self.view_is)
    (own_later (batch_of (bytes_in c.self.inside.bytes)) c.self.inside.amendments.items c.self.invariant.1.amendments c.args.seq c.args.index c.in-Some.amendment last
    c.in-Some-own_value.value c.if-amendment-index.true has)

pub returns-else-amendment-index : goal.returns-else-amendment-index
returns-else-amendment-index c =
    let last = rw c.deref.ensures.value at c.in-Some.ensures in
    rw (← c.self.view_is)
    (amended_later (batch_of (bytes_in c.self.inside.bytes)) c.self.inside.amendments.items c.self.invariant.1.amendments c.args.seq c.args.index c.in-Some.amendment last
    c.if-amendment-index.false)

pub returns-in-None : goal.returns-in-None
returns-in-None c =
    let last = rw c.deref.ensures.value at c.in-Some.ensures in
    let lacks = rw (← c.self.view_is) at c.in-None.ensures in
    rw (← c.self.view_is)
    (amended (batch_of (bytes_in c.self.inside.bytes)) c.self.inside.amendments.items c.self.invariant.1.amendments c.args.seq c.args.index c.in-Some.amendment last lacks)

use Rattle.std.proofs.Common.{◌≡◌, ◌≤◌, Some, length, sym, subst, ◌∙◌}
use Rattle.std.specs.List.{slice_get}
use Rattle.std.specs.Option.{MatchOption}
use Rattle.batch_view.specs.Inner.Bytes.{bytes_in}
use Rattle.batch_view.specs.Batches.{batch_of}
use Rattle.batch_view.specs.Inner.Given.{HasReading, LacksReading}
use Rattle.batch_view.proofs.EntryLaws.{has_reading, lacks_other, lacks_past, lacks_reading}
use Rattle.batch_view.proofs.owned.OwnedBatch.own_value.Goals as goal

pub returns-in-Reading : goal.returns-in-Reading
returns-in-Reading c =
    let is : slice_get c.self.inside.entries.items c.args.index ≡ Some c.in_ok-entry.entry.now = rw c.deref.ensures.value at c.in_ok-entry.ensures in
    let own : c.args.seq ≡ c.self.inside.head.seq = c.if-seq-self.false in
    rw (← c.self.view_is)
    (subst (HasReading (batch_of (bytes_in c.self.inside.bytes)) c.args.seq c.args.index) (sym c.value.ensures)
    (has_reading (bytes_in c.self.inside.bytes) c.self.inside.head c.self.inside.entries.items c.args.seq c.args.index c.in_ok-entry.entry.now _ _ _
    c.self.invariant.1.batch own is (sym c.found.ensures ∙ c.in-Reading.is)))

pub returns-in-Amend : goal.returns-in-Amend
returns-in-Amend c =
    let is : slice_get c.self.inside.entries.items c.args.index ≡ Some c.in_ok-entry.entry.now = rw c.deref.ensures.value at c.in_ok-entry.ensures in
    rw (← c.self.view_is)
    (lacks_reading (bytes_in c.self.inside.bytes) c.self.inside.head c.self.inside.entries.items c.args.seq c.args.index c.in_ok-entry.entry.now _ _
    c.self.invariant.1.batch is (sym c.found.ensures ∙ c.in-Amend.is))

pub returns-then-seq-self : goal.returns-then-seq-self
returns-then-seq-self c =
    rw (← c.self.view_is)
    (lacks_other (bytes_in c.self.inside.bytes) c.self.inside.head c.self.inside.entries.items c.args.seq c.args.index c.self.invariant.1.batch c.if-seq-self.true)

pub returns-in_err-entry : goal.returns-in_err-entry
returns-in_err-entry c =
    let past : length c.self.inside.entries.items ≤ c.args.index = subst (λ es. length es ≤ c.args.index) c.deref.ensures.value c.in_err-entry.ensures in
    let b = batch_of (bytes_in c.self.inside.bytes) in
    rw (← c.self.view_is)
    (subst (λ o. MatchOption o (LacksReading b c.args.seq c.args.index) (HasReading b c.args.seq c.args.index)) (sym c.from_residual.ensures)
    (lacks_past (bytes_in c.self.inside.bytes) c.self.inside.head c.self.inside.entries.items c.args.seq c.args.index c.self.invariant.1.batch past))

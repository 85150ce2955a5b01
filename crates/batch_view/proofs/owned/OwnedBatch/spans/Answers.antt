use Rattle.std.proofs.Common.{◌≡◌, Some, take, subst, sym, ap, ap₂, ◌∙◌}
use Rattle.std.specs.List.{slice_get}
use Rattle.batch_view.specs.Inner.Bytes.{bytes_in}
use Rattle.batch_view.specs.Kept.{AreFieldSpans}
use Rattle.batch_view.specs.Inner.Entries.{field_total}
use Rattle.batch_view.proofs.EntryLaws.{field_spans_of}
use Rattle.batch_view.proofs.owned.OwnedBatch.spans.Goals as goal

pub returns-clause-spans : goal.returns-clause-spans
returns-clause-spans c =
    let is : slice_get c.self.inside.entries.items c.args.index ≡ Some c.in_ok-entry.entry.now = rw c.deref.ensures.value at c.in_ok-entry.ensures in
    let count = c.field_total.ensures.value ∙ ap (field_total c.self.inside.head.version) c.found.ensures in
    rw (← c.self.view_is)
    (subst (λ spans. AreFieldSpans (bytes_in c.self.inside.bytes) c.args.index spans) (sym (c.first.ensures ∙ ap₂ take count c.spans.ensures))
    (field_spans_of (bytes_in c.self.inside.bytes) c.self.inside.head c.self.inside.entries.items c.args.index c.in_ok-entry.entry.now c.self.invariant.1.batch is))

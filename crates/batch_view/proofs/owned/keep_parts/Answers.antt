use Rattle.std.proofs.Common.{◌∙◌, ap, sym}
use Rattle.std.specs.List.{list_all}
use Rattle.batch_view.specs.Inner.Bytes.{bytes_in}
use Rattle.batch_view.specs.Inner.Amended.{entry_before}
use Rattle.batch_view.proofs.EntryLaws.{keeps_parts}
use Rattle.batch_view.proofs.owned.keep_parts.Goals as goal

pub invariant_of-batch : goal.invariant_of-batch
invariant_of-batch c =
    let all = rw c.deref.ensures.value at c.in_ok-amendments.ensures.all in (
      c.requires.there,
      keeps_parts (bytes_in c.args.bytes) c.args.head c.args.entries.items _ _ c.requires.keeps all c.in_ok-amendments.ensures.small c.in_ok-amendments.ensures.rising
          (λ moment. sym (ap (list_all (entry_before moment)) c.deref-2.ensures.value) ∙ c.latest_start-latest.ensures moment),
    )

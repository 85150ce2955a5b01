-- The entry that comes of what is kept is of the same record.
use Rattle.std.proofs.Common.{sym, subst}
use Rattle.batch_view.specs.Inner.Entries.{IsEntryAt}
use Rattle.batch_view.specs.Inner.Packed.{ends_of, unpacked}
use Rattle.batch_view.proofs.PackedLaws.{packs_reading, packs_amendment}
use Rattle.batch_view.proofs.packed.PackedEntry.of.Goals.{in-Reading, in-Amend}
use Rattle.batch_view.proofs.packed.PackedEntry.of.Goals as goal

pub returns : goal.returns
returns c = λ version bytes line short at.
    let ends = ends_of c.short-2.result c.short-3.result c.short-4.result c.short-5.result c.short-6.result c.short-7.result c.short-8.result c.short-9.result in
    let value = c.args.entry.now.value in
    elim c.match-entry.branch [
      | in-Reading w ↦ subst (λ packed. IsEntryAt version bytes line (unpacked ends value packed)) (sym w.packed-is)
          (packs_reading version bytes line c.args.entry.now w.in-Reading.kind w.in-Reading.start w.in-Reading.end c.short-from.result
          c.short-2.result c.short-3.result c.short-4.result c.short-5.result c.short-6.result c.short-7.result c.short-8.result c.short-9.result
          w.short.result w.short-in-Reading.result short at w.in-Reading.is c.short-from.ensures
          c.short-2.ensures c.short-3.ensures c.short-4.ensures c.short-5.ensures c.short-6.ensures c.short-7.ensures c.short-8.ensures c.short-9.ensures
          w.short.ensures w.short-in-Reading.ensures)
      | in-Amend w ↦ subst (λ packed. IsEntryAt version bytes line (unpacked ends value packed)) (sym w.packed-is)
          (packs_amendment version bytes line c.args.entry.now w.in-Amend.seq w.in-Amend.index c.short-from.result
          c.short-2.result c.short-3.result c.short-4.result c.short-5.result c.short-6.result c.short-7.result c.short-8.result c.short-9.result
          short at w.in-Amend.is c.short-from.ensures c.short-2.ensures c.short-3.ensures c.short-4.ensures c.short-5.ensures)
    ]

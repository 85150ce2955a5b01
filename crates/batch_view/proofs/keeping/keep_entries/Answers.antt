use Rattle.std.proofs.Common.{◌≡◌, ◌+◌, not, Err, ap, ◌∙◌, subst, sym, arith}
use Rattle.batch_view.specs.Inner.Kept.{KeepsEntries}
use Rattle.batch_view.proofs.EntryLemmas.{keeps_more, keeps_fault}
use Rattle.batch_view.proofs.keeping.keep_entries.Goals as goal

pub loop-index-preserved : goal.loop-index-preserved
loop-index-preserved c =
    let ok = c.is_err.ensures.negation ∙ ap not c.if-is_err.false in
    let items = rw ok at c.push.ensures.items in
    subst (KeepsEntries c.args.version c.args.text.now (c.loop-index.index + 1) c.in-Ok-entry_from.next) (sym items)
    (keeps_more c.args.version c.args.text.now c.loop-index.index c.loop-index.at c.loop-index.entries.items c.in-Ok-entry_from.entry c.in-Ok-entry_from.next
    c.loop-index.invariant c.in-Ok-entry_from.ensures)

pub returns-in-Err : goal.returns-in-Err
returns-in-Err c =
    let place : c.loop-index.index + 2 ≡ c.from-in-Err.result + 2 = omega (arith, c.from-in-Err.ensures) in
    keeps_fault c.args.version c.args.text.now c.args.count c.loop-index.index c.loop-index.at c.loop-index.entries.items c.in-Err.code
    c.loop-index.invariant c.loop-index-test.true c.in-Err.ensures
    ∙ ap (λ line. Err (record { code = c.in-Err.code; line = line })) place

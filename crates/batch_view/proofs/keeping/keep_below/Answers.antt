use Rattle.std.proofs.Common.{◌≡◌, ◌+◌, Err, ap, ◌∙◌, arith}
use Rattle.metering_model.specs.declared.BatchCode.TheVariants.{Count}
use Rattle.batch_view.proofs.RecordLemmas.{ok_is}
use Rattle.batch_view.proofs.BatchLemmas.{end_fault, is_batch}
use Rattle.batch_view.proofs.EntryLemmas.{keeps_batch}
use Rattle.batch_view.proofs.keeping.keep_below.Goals as goal

pub returns-then-end-bytes : goal.returns-then-end-bytes
returns-then-end-bytes c =
    let kept = c.in-Ok.ensures in
    let records = ok_is _ kept.good in
    let place : c.args.head.count + 2 ≡ c.from.result + 2 = omega (arith, c.from.ensures) in
    end_fault c.args.bytes.now c.args.head records.0 _ c.requires.short c.requires.begins records.1 kept.behind c.if-end-bytes.true
    ∙ ap (λ line. Err (record { code = Count; line = line })) place

pub returns : goal.returns
returns c =
    let kept = c.in-Ok.ensures in
    let records = ok_is _ kept.good in
    keeps_batch c.args.bytes.now c.args.head _ _ kept
    (is_batch c.args.bytes.now c.args.head records.0 _ c.requires.short c.requires.begins records.1 kept.behind c.if-end-bytes.false)

use Rattle.std.proofs.Common.{◌≡◌, ◌+◌, Err, ap, ◌∙◌, arith}
use Rattle.metering_model.specs.declared.BatchCode.TheVariants.{Count}
use Rattle.batch_view.proofs.RecordLemmas.{ok_is}
use Rattle.batch_view.proofs.BatchLemmas.{end_fault, is_batch}
use Rattle.batch_view.proofs.first_fault.check_batch.Goals as goal

pub returns-then-end-bytes : goal.returns-then-end-bytes
returns-then-end-bytes c =
    let records = ok_is _ c.in_ok-end.ensures.0 in
    let place : c.in_ok-head.head.count + 2 ≡ c.from.result + 2 = omega (arith, c.from.ensures) in
    end_fault c.args.bytes.now c.in_ok-head.head records.0 c.in_ok-end.end c.in_ok-head.ensures.0 c.in_ok-head.ensures.1 records.1 c.in_ok-end.ensures.1 c.if-end-bytes.true
    ∙ ap (λ line. Err (record { code = Count; line = line })) place

pub returns : goal.returns
returns c =
    let records = ok_is _ c.in_ok-end.ensures.0 in
    is_batch c.args.bytes.now c.in_ok-head.head records.0 c.in_ok-end.end c.in_ok-head.ensures.0 c.in_ok-head.ensures.1 records.1 c.in_ok-end.ensures.1 c.if-end-bytes.false

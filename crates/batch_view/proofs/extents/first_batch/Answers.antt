use Rattle.std.proofs.Common.{ℕ, ◌<◌, List, length, take, drop, subst, arith}
use Rattle.std.proofs.lemmas.List.{take_rest}
use Rattle.metering_model.specs.BatchReading.{lines_in}
use Rattle.record_view.specs.Lines.{IsPast}
use Rattle.batch_view.proofs.FirstLemmas.{without_head, without_lines, with_lines}
use Rattle.batch_view.proofs.extents.first_batch.Goals as goal

pub returns-in_err-head : goal.returns-in_err-head
returns-in_err-head c =
    rw c.from_residual.ensures
    (without_head c.args.text.now c.min.result (omega (arith, c.min.ensures)) (λ less. omega (arith, less, c.min.ensures)) c.in_err-head.ensures)

pub returns-in_err-records : goal.returns-in_err-records
returns-in_err-records c =
    let front = take c.min.result c.args.text.now in
    let h = c.in_ok-head.head in
    let behind = take_rest front h.records_from in
    let few : length (lines_in (drop h.records_from front)).lines < c.from.result = subst (λ (t : List ℕ). length (lines_in t).lines < c.from.result) behind c.in_err-records.ensures in
    rw c.from_residual-in_err-records.ensures
    (without_lines c.args.text.now c.min.result (omega (arith, c.min.ensures)) (λ less. omega (arith, less, c.min.ensures)) h c.in_ok-head.ensures
    (omega (arith, few, c.from.ensures)))

pub returns : goal.returns
returns c =
    let front = take c.min.result c.args.text.now in
    let h = c.in_ok-head.head in
    let behind = take_rest front h.records_from in
    let past : IsPast (drop h.records_from front) c.from.result c.in_ok-records.records = subst (λ (t : List ℕ). IsPast t c.from.result c.in_ok-records.records) behind c.in_ok-records.ensures in
    with_lines c.args.text.now c.min.result (omega (arith, c.min.ensures)) (λ less. omega (arith, less, c.min.ensures)) h c.in_ok-records.records c.in_ok-head.ensures
    (subst (λ (k : ℕ). IsPast (drop h.records_from front) k c.in_ok-records.records) c.from.ensures past)

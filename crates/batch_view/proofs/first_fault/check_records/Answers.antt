use Rattle.std.proofs.Common.{◌≡◌, suc, ◌+◌, drop, Err, sym, ap, subst, ◌∙◌, arith}
use Rattle.std.proofs.lemmas.List.{drop-drop}
use Rattle.metering_model.specs.BatchReading.{lines_in}
use Rattle.batch_view.specs.Inner.Lines.{IsBehindLines, first_record}
use Rattle.batch_view.proofs.LineLemmas.{one_more_line}
use Rattle.batch_view.proofs.RecordLemmas.{fault_at, one_more_record}
use Rattle.batch_view.proofs.first_fault.check_records.Goals as goal

pub returns-in-Err : goal.returns-in-Err
returns-in-Err c =
    let lines = (lines_in c.args.text.now).lines in
    let index = c.loop-index.index in
    let next : 1 + index ≡ index + 1 = omega arith in
    let here = ap (first_record c.args.version) (drop-drop index 1 lines ∙ ap (λ n. drop n lines) next ∙ sym c.loop-index.invariant.behind.lines) in
    let place : 2 + index ≡ c.from.result + 2 = omega (arith, c.from.ensures) in
    fault_at c.args.version 2 c.args.count index (drop 1 lines) c.in-Err.code c.loop-index.invariant.so_far c.loop-index-test.true (here ∙ c.in-Err.ensures)
    ∙ ap (λ line. Err (record { code = c.in-Err.code; line = line })) place

pub loop-index-preserved : goal.loop-index-preserved
loop-index-preserved c =
    let lines = (lines_in c.args.text.now).lines in
    let index = c.loop-index.index in
    let lends = c.in-Ok.ensures in
    let line = one_more_line c.args.text.now (index + 1) c.loop-index.at lends.span c.loop-index.invariant.behind lends.is_line in
    let next : 1 + index ≡ index + 1 = omega arith in
    let read = ap (first_record c.args.version) (drop-drop index 1 lines ∙ ap (λ n. drop n lines) next ∙ line.left) ∙ lends.record_is in
    let more : suc index ≡ index + 1 = omega arith in
    record {
      so_far = rw (← more) (one_more_record c.args.version 2 index (drop 1 lines) _ c.loop-index.invariant.so_far read);
      behind = subst (IsBehindLines c.args.text.now (index + 1 + 1)) (sym lends.behind) line.behind;
    }

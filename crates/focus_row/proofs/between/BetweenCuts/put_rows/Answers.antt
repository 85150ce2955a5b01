use Rattle.std.proofs.Common.{◌+◌, drop, refl, arith}
use Rattle.batch_view.specs.Batches.{batch_of}
use Rattle.batch_view.specs.Lent.{record_of}
use Rattle.focus_row.proofs.RowBeginnings.{begins_itself, begins_longer}
use Rattle.focus_row.proofs.StopLaws.{left_at, next_record, one_row_more}
use Rattle.focus_row.proofs.between.BetweenCuts.put_rows.Goals as goal

pub loop-index-init : goal.loop-index-init
loop-index-init c = (c.requires.near, refl, λ same. refl, λ few. few, begins_itself _)

pub put_row-requires-clause-near : goal.put_row-requires-clause-near
put_row-requires-clause-near c = c.loop-index.invariant.0

pub loop-index-preserved : goal.loop-index-preserved
loop-index-preserved c =
    let records = (batch_of c.args.batch.now).records in
    let i = c.loop-index.index in (
      c.in_ok-put_row.ensures.put.named,
      next_record c.args.self.now c.args.agent c.args.seq i (record_of c.in-Some.record) (drop i records) (drop (i + 1) records)
          (left_at records i (record_of c.in-Some.record) c.in-Some.ensures.record) _ c.loop-index.rows.items c.put_row.new.rows.items c.in_ok-put_row.ensures.put.row c.loop-index.invariant.1,
      λ same. absurd (omega arith),
      λ few. let more = one_row_more _ c.loop-index.rows.items c.put_row.new.rows.items c.in_ok-put_row.ensures.put.row in omega arith,
      begins_longer _ _ _ c.in_ok-put_row.ensures.put.begins c.loop-index.invariant.4,
    )

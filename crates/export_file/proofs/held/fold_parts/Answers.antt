-- One part more, and at last all of them.
use Rattle.std.proofs.Common.{◌≡◌, ◌++◌, ◌∷◌, [], take, ◌∙◌, arith}
use Rattle.metering_model.specs.File.{file, header_line}
use Rattle.focus_csv.specs.Rows.{batch_lines, joined}
use Rattle.export_file.proofs.PartLaws.{last_part, lines_told, on_ok_then, part_behind}
use Rattle.export_file.proofs.held.fold_parts.Goals as goal

pub loop-from-preserved : goal.loop-from-preserved
loop-from-preserved c =
    let l = c.loop-from in
    let batches = c.args.batches.now in
    let to = c.part_end-to.result in
    let head = header_line ++ 10 ∷ [] in
    let part = c.put_batches.new.text.items in
    let all : l.folded ++ part ≡ head ++ batch_lines (take to batches) =
    part_behind head l.folded part l.part.items batches l.from to (omega (arith, c.part_end-to.ensures)) l.invariant.put c.in_ok-put_batches.ensures.put in
    record {
      within = omega (arith, c.part_end-to.ensures);
      put = c.in_ok-lines.ensures.put ∙ all;
      lines = c.in_ok-lines.ensures.lines;
    }

pub returns-clause-put : goal.returns-clause-put
returns-clause-put c =
    let l = c.loop-from in
    let batches = c.args.batches.now in
    let whole = last_part l.folded l.part.items batches l.from (omega (arith, c.loop-from-test.false, c.batches.ensures)) l.invariant.put (c.a_file_is_written_in_parts.ensures.whole batches) in
    on_ok_then c.put_part.result (λ e. e ∙ whole) c.put_part.ensures.put

pub returns-clause-lines : goal.returns-clause-lines
returns-clause-lines c =
    let l = c.loop-from in
    let batches = c.args.batches.now in
    let whole = last_part l.folded l.part.items batches l.from (omega (arith, c.loop-from-test.false, c.batches.ensures)) l.invariant.put (c.a_file_is_written_in_parts.ensures.whole batches) in
    lines_told c.put_part.result c.put_part.new.folded (file (joined batches)) (on_ok_then c.put_part.result (λ e. e ∙ whole) c.put_part.ensures.put) c.put_part.ensures.lines

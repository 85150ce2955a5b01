-- What is kept of a reading, of plain bytes or not, is kept of its line, and what is wrong with a record is wrong with its line.
use Rattle.std.proofs.Common.{◌<◌, refl, ap, ◌∙◌, arith}
use Rattle.metering_model.specs.Limits.{most_batch_bytes}
use Rattle.batch_view.specs.Inner.Lines.{first_record}
use Rattle.batch_view.proofs.entries.entry_from.Goals as goal

pub returns-in-Some-plain_entry : goal.returns-in-Some-plain_entry
returns-in-Some-plain_entry c =
    let short : c.in-Some.line.to < most_batch_bytes = omega (arith, c.in-Some.ensures.within, c.requires.short) in
    record {
      span = c.in-Some.line;
      is_line = c.in-Some.ensures;
      behind = refl;
      at = c.of.ensures c.args.version c.args.text.now c.in-Some.line short c.in-Some-plain_entry.ensures;
    }

pub returns-in-Ok : goal.returns-in-Ok
returns-in-Ok c =
    let short : c.in-Some.line.to < most_batch_bytes = omega (arith, c.in-Some.ensures.within, c.requires.short) in
    record {
      span = c.in-Some.line;
      is_line = c.in-Some.ensures;
      behind = refl;
      at = c.of-in-Ok.ensures c.args.version c.args.text.now c.in-Some.line short c.in-Ok.ensures;
    }

pub returns-in-Err : goal.returns-in-Err
returns-in-Err c = ap (λ l. first_record c.args.version l.lines) c.in-Some.ensures.lines ∙ c.in-Err.ensures

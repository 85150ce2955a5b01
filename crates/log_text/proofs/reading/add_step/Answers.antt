-- An increment is one line, or the lines that the first says to be below it.
use Rattle.std.proofs.Common.{sym}
use Rattle.log_text.specs.LogText.{BadIncrement}
use Rattle.log_text.specs.Inner.Reading.{HasNoStep}
use Rattle.log_text.proofs.ReadLogs.{batch_step, line_step, no_batch_step, no_line_step, torn_step}
use Rattle.log_text.proofs.ReadSections.{told_by}
use Rattle.log_text.proofs.reading.add_step.Goals as goal

pub returns-in-Ok : goal.returns-in-Ok
returns-in-Ok c = line_step c.args.parts.now c.args.number c.args.line.now c.args.below.now (sym c.in_default.ensures) c.add_line.new.parts c.in-Ok.ensures

pub returns-in-Err : goal.returns-in-Err
returns-in-Err c =
    told_by c.args.number BadIncrement c.in-Err.why c.fault_at.result _ (HasNoStep c.args.parts.now c.args.number c.args.line.now c.args.below.now) c.fault_at.ensures
    (no_line_step c.args.parts.now c.args.number c.args.line.now c.args.below.now (sym c.in_default.ensures)) c.in-Err.ensures

pub returns-in_default-lines_length : goal.returns-in_default-lines_length
returns-in_default-lines_length c = torn_step c.args.parts.now c.args.number c.args.line.now c.args.below.now c.in-Some.lines (sym c.in-Some.ensures) c.in_default-lines_length.ensures

pub returns-in-Ok-add_batch_of : goal.returns-in-Ok-add_batch_of
returns-in-Ok-add_batch_of c =
    batch_step c.args.parts.now c.args.number c.args.line.now c.args.below.now c.in-Some.lines (sym c.in-Some.ensures) c.in-Some-lines_length.length c.in-Some-lines_length.ensures c.split_at.result.0.now c.split_at.result.1.now
    c.split_at.ensures.front c.split_at.ensures.back c.add_batch_of.new.parts c.from.result c.from.ensures c.in-Ok-add_batch_of.ensures

pub returns-in-Err-add_batch_of : goal.returns-in-Err-add_batch_of
returns-in-Err-add_batch_of c =
    told_by c.args.number BadIncrement c.in-Err-add_batch_of.why c.fault_at-in-Err-add_batch_of.result _ (HasNoStep c.args.parts.now c.args.number c.args.line.now c.args.below.now) c.fault_at-in-Err-add_batch_of.ensures
    (no_batch_step c.args.parts.now c.args.number c.args.line.now c.args.below.now c.in-Some.lines (sym c.in-Some.ensures) c.in-Some-lines_length.length c.in-Some-lines_length.ensures c.split_at.result.0.now c.split_at.result.1.now
    c.split_at.ensures.front c.split_at.ensures.back) c.in-Err-add_batch_of.ensures

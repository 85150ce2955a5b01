use Rattle.std.proofs.Common.{◌≡◌, Ok, Err, [], refl, ap, arith}
use Rattle.std.proofs.lemmas.Bool.{false≢true}
use Rattle.std.proofs.lemmas.Result.{err_from_is_err_and}
use Rattle.line_source.proofs.Taking.{only_read, takes_on}
use Rattle.period_file.specs.Faults.{of_source, tells_of_reader, tells_of_writer}
use Rattle.period_file.specs.Inner.Reading.{Finds}
use Rattle.period_file.proofs.Failing.{answered, never_none, never_torn, never_write, no_answer, none_failed, none_is_torn, none_is_write, one_fault, passed, reads_of, told_on, torn_is_write, writes_of}
use Rattle.period_file.proofs.Taking.{copies_read, on_err, stops_at_read}
use Rattle.period_file.proofs.Seen.{any_prefix, copying_of, read_within, refused}
use Rattle.period_file.proofs.Told.{prefix_at_stop, less_at_stop, none_answer, torn_answer, torn_refused, whole_answer}
use Rattle.period_file.proofs.files.file_text.Given as given
use Rattle.period_file.proofs.files.file_text.Goals.{In-Some}
use Rattle.period_file.proofs.files.file_text.Goals as goal

-- ---- no line above a file comes

pub returns-in_err-count-clause-refused : goal.returns-in_err-count-clause-refused
returns-in_err-count-clause-refused g c =
    let p = err_from_is_err_and c.from_residual.result c.from_residual.ensures.1 in
    let it = rw (c.new-unread.ensures.bytes, c.new-unread.ensures.read) at c.find_line_above.ensures.takes in
    rw (p.1, p.2) (refused it.1 c.args.period (of_source c.in_err-count.field-0.0) (copying_of c.in_err-count.field-0.0 c.find_line_above.new.unread.read c.in_err-count.ensures.reads.reading))

pub returns-in_err-count-clause-file : goal.returns-in_err-count-clause-file
returns-in_err-count-clause-file g c = rw (passed (err_from_is_err_and c.from_residual.result c.from_residual.ensures.1)) tt

pub returns-in_err-count-clause-none : goal.returns-in_err-count-clause-none
returns-in_err-count-clause-none g c = λ _. refl

pub returns-in_err-count-clause-stopped : goal.returns-in_err-count-clause-stopped
returns-in_err-count-clause-stopped g c =
    let is = passed (err_from_is_err_and c.from_residual.result c.from_residual.ensures.1) in
    record {
      torn = λ torn. never_torn c.find_line_above.new.unread.read (copying_of c.in_err-count.field-0.0 c.find_line_above.new.unread.read c.in_err-count.ensures.reads.reading) is torn;
      prefix = on_err c.from_residual.result (any_prefix (g.R.Source.remaining c.args.reader.now) c.args.period (g.W.Sink.contents c.args.writer.now));
      less = λ write. never_write c.in_err-count.field-0.0 (one_fault is write);
    }

pub returns-in_err-count-clause-streams : goal.returns-in_err-count-clause-streams
returns-in_err-count-clause-streams g c =
    let is = passed (err_from_is_err_and c.from_residual.result c.from_residual.ensures.1) in
    let it = rw (c.new-unread.ensures.bytes, c.new-unread.ensures.read) at c.find_line_above.ensures.takes in
    record {
      read = read_within it.1 c.find_line_above.ensures.reads.most;
      end = λ ok. no_answer is ok;
      reads = reads_of c.in_err-count.field-0.0 is refl c.in_err-count.ensures.reads;
      writes = writes_of c.in_err-count.field-0.0 is (g.W.Sink.failed_calls c.args.writer.now) refl;
    }

pub returns-in_default-clause-stopped : goal.returns-in_default-clause-stopped
returns-in_default-clause-stopped g c = record {
  torn = λ torn. none_is_torn _ refl (one_fault refl torn);
  prefix = any_prefix (g.R.Source.remaining c.args.reader.now) c.args.period (g.W.Sink.contents c.args.writer.now);
  less = λ write. none_is_write _ refl (one_fault refl write);
}

pub returns-in_default-clause-streams : goal.returns-in_default-clause-streams
returns-in_default-clause-streams g c =
    let it = rw (c.new-unread.ensures.bytes, c.new-unread.ensures.read) at c.find_line_above.ensures.takes in
    record { read = read_within it.1 c.find_line_above.ensures.reads.most; end = λ ok. absurd (false≢true ok); reads = c.in_ok-count.ensures.reads.count; writes = refl }

pub returns-in_default-clause-refused : goal.returns-in_default-clause-refused
returns-in_default-clause-refused g c = λ refusal.
    none_answer (rw (c.new-unread.ensures.bytes, c.new-unread.ensures.read) at (c.in_ok-count.ensures.none (ap Ok c.in_default.is))) c.in_ok-count.ensures.reads.within

-- the line above the file was found, in all that was read
above : (g : given.Over) (c : In-Some g) → Finds c.args.period c.in-Some.count [] c.find_line_above.new.unread.bytes 0 c.find_line_above.new.unread.read (g.R.Source.remaining c.args.reader.now) (g.R.Source.remaining c.find_line_above.new.source)
above g c = rw (c.new-unread.ensures.bytes, c.new-unread.ensures.read) at (c.in_ok-count.ensures.found c.in-Some.count (ap Ok c.in-Some.is))

pub returns-in_err-lacking-clause-none : goal.returns-in_err-lacking-clause-none
returns-in_err-lacking-clause-none g c = λ none. never_none c.copy_lines.new.unread.read c.in_err-lacking.ensures.calls.copying (passed (err_from_is_err_and c.from_residual-in_err-lacking.result c.from_residual-in_err-lacking.ensures.1)) none

pub returns-in_err-lacking-clause-refused : goal.returns-in_err-lacking-clause-refused
returns-in_err-lacking-clause-refused g c =
    let p = err_from_is_err_and c.from_residual-in_err-lacking.result c.from_residual-in_err-lacking.ensures.1 in
    let found = above g (goal.at.returns-in_err-lacking-clause-refused g c).In-Some in
    rw (p.1, p.2) (refused (takes_on found.takes c.in_err-lacking.ensures.stopped.takes) c.args.period c.in_err-lacking.field-0.0 c.in_err-lacking.ensures.calls.copying)

pub returns-in_err-lacking-clause-stopped : goal.returns-in_err-lacking-clause-stopped
returns-in_err-lacking-clause-stopped g c =
    let found = above g (goal.at.returns-in_err-lacking-clause-stopped g c).In-Some in
    let is = passed (err_from_is_err_and c.from_residual-in_err-lacking.result c.from_residual-in_err-lacking.ensures.1) in
    record {
      torn = λ torn. never_torn c.copy_lines.new.unread.read c.in_err-lacking.ensures.calls.copying is torn;
      prefix = on_err c.from_residual-in_err-lacking.result (prefix_at_stop found c.in_err-lacking.ensures.stopped);
      less = λ write. less_at_stop found (c.in_err-lacking.ensures.short (ap Err (one_fault is write)));
    }

pub returns-in_err-lacking-clause-streams : goal.returns-in_err-lacking-clause-streams
returns-in_err-lacking-clause-streams g c =
    let found = above g (goal.at.returns-in_err-lacking-clause-streams g c).In-Some in
    let is = passed (err_from_is_err_and c.from_residual-in_err-lacking.result c.from_residual-in_err-lacking.ensures.1) in
    record {
      read = read_within (takes_on found.takes c.in_err-lacking.ensures.stopped.takes) c.copy_lines.ensures.calls.most;
      end = λ ok. no_answer is ok;
      reads = told_on {f' = g.R.Source.failed_calls c.args.reader.now} (ap tells_of_reader is) c.in_ok-count.ensures.reads.count c.in_err-lacking.ensures.calls.reads;
      writes = told_on {f' = g.W.Sink.failed_calls c.args.writer.now} (ap tells_of_writer is) refl c.in_err-lacking.ensures.calls.writes;
    }

pub returns-then-lacking-gt0-clause-refused : goal.returns-then-lacking-gt0-clause-refused
returns-then-lacking-gt0-clause-refused g c = λ refusal.
    let found = above g (goal.at.returns-then-lacking-gt0-clause-refused g c).In-Some in
    torn_refused found c.in_ok-lacking.ensures.copied c.if-lacking-gt0.true (c.in_ok-lacking.ensures.ended c.if-lacking-gt0.true) c.in_ok-lacking.ensures.calls.within

pub returns-then-lacking-gt0-clause-stopped : goal.returns-then-lacking-gt0-clause-stopped
returns-then-lacking-gt0-clause-stopped g c =
    let found = above g (goal.at.returns-then-lacking-gt0-clause-stopped g c).In-Some in
    record {
      torn = λ is. torn_answer found c.in_ok-lacking.ensures.copied c.if-lacking-gt0.true (c.in_ok-lacking.ensures.ended c.if-lacking-gt0.true) c.in_ok-lacking.ensures.calls.within;
      prefix = prefix_at_stop found (stops_at_read c.in_ok-lacking.ensures.copied);
      less = λ write. torn_is_write _ refl (one_fault refl write);
    }

pub returns-then-lacking-gt0-clause-streams : goal.returns-then-lacking-gt0-clause-streams
returns-then-lacking-gt0-clause-streams g c =
    let found = above g (goal.at.returns-then-lacking-gt0-clause-streams g c).In-Some in
    record {
      read = read_within (takes_on found.takes c.in_ok-lacking.ensures.copied.takes) c.copy_lines.ensures.calls.most;
      end = λ ok. absurd (false≢true ok);
      reads = none_failed (g.R.Source.failed_calls c.args.reader.now) (g.R.Source.failed_calls c.find_line_above.new.source) c.in_ok-lacking.ensures.calls.reads c.in_ok-count.ensures.reads.count;
      writes = c.in_ok-lacking.ensures.calls.writes;
    }

pub returns-in_err-drop_rest-clause-none : goal.returns-in_err-drop_rest-clause-none
returns-in_err-drop_rest-clause-none g c = λ none.
    never_none c.drop_rest.new.unread.read (copying_of c.in_err-drop_rest.field-0.0 c.drop_rest.new.unread.read c.in_err-drop_rest.ensures.reads.reading) (passed (err_from_is_err_and c.from_residual-in_err-drop_rest.result c.from_residual-in_err-drop_rest.ensures.1)) none

pub returns-in_err-drop_rest-clause-refused : goal.returns-in_err-drop_rest-clause-refused
returns-in_err-drop_rest-clause-refused g c =
    let p = err_from_is_err_and c.from_residual-in_err-drop_rest.result c.from_residual-in_err-drop_rest.ensures.1 in
    let found = above g (goal.at.returns-in_err-drop_rest-clause-refused g c).In-Some in
    let all = takes_on found.takes (takes_on c.in_ok-lacking.ensures.copied.takes c.drop_rest.ensures.takes.1) in
    rw (p.1, p.2) (refused all c.args.period (of_source c.in_err-drop_rest.field-0.0) (copying_of c.in_err-drop_rest.field-0.0 c.drop_rest.new.unread.read c.in_err-drop_rest.ensures.reads.reading))

pub returns-in_err-drop_rest-clause-stopped : goal.returns-in_err-drop_rest-clause-stopped
returns-in_err-drop_rest-clause-stopped g c =
    let found = above g (goal.at.returns-in_err-drop_rest-clause-stopped g c).In-Some in
    let is = passed (err_from_is_err_and c.from_residual-in_err-drop_rest.result c.from_residual-in_err-drop_rest.ensures.1) in
    record {
      torn = λ torn. never_torn c.drop_rest.new.unread.read (copying_of c.in_err-drop_rest.field-0.0 c.drop_rest.new.unread.read c.in_err-drop_rest.ensures.reads.reading) is torn;
      prefix = on_err c.from_residual-in_err-drop_rest.result (prefix_at_stop found (stops_at_read (copies_read c.in_ok-lacking.ensures.copied (only_read c.drop_rest.ensures.takes.1))));
      less = λ write. never_write c.in_err-drop_rest.field-0.0 (one_fault is write);
    }

pub returns-in_err-drop_rest-clause-streams : goal.returns-in_err-drop_rest-clause-streams
returns-in_err-drop_rest-clause-streams g c =
    let found = above g (goal.at.returns-in_err-drop_rest-clause-streams g c).In-Some in
    let is = passed (err_from_is_err_and c.from_residual-in_err-drop_rest.result c.from_residual-in_err-drop_rest.ensures.1) in
    record {
      read = read_within (takes_on found.takes (takes_on c.in_ok-lacking.ensures.copied.takes c.drop_rest.ensures.takes.1)) c.drop_rest.ensures.reads.most;
      end = λ ok. no_answer is ok;
      reads = reads_of c.in_err-drop_rest.field-0.0 is (none_failed (g.R.Source.failed_calls c.args.reader.now) (g.R.Source.failed_calls c.find_line_above.new.source) c.in_ok-lacking.ensures.calls.reads c.in_ok-count.ensures.reads.count) c.in_err-drop_rest.ensures.reads;
      writes = writes_of c.in_err-drop_rest.field-0.0 is (g.W.Sink.failed_calls c.args.writer.now) c.in_ok-lacking.ensures.calls.writes;
    }

pub returns-clause-file : goal.returns-clause-file
returns-clause-file g c =
    let found = above g (goal.at.returns-clause-file g c).In-Some in
    let copies = copies_read c.in_ok-lacking.ensures.copied (only_read c.drop_rest.ensures.takes.1) in
    let none : c.in_ok-lacking.lacking ≡ 0 = omega (arith, c.if-lacking-gt0.false) in
    whole_answer found copies none c.in_ok-drop_rest.ensures.end c.in_ok-drop_rest.ensures.reads.within

pub returns-clause-streams : goal.returns-clause-streams
returns-clause-streams g c =
    let found = above g (goal.at.returns-clause-streams g c).In-Some in
    record {
      read = read_within (takes_on found.takes (takes_on c.in_ok-lacking.ensures.copied.takes c.drop_rest.ensures.takes.1)) c.drop_rest.ensures.reads.most;
      end = λ _. c.in_ok-drop_rest.ensures.end;
      reads =
          none_failed (g.R.Source.failed_calls c.args.reader.now) (g.R.Source.failed_calls c.copy_lines.new.source) c.in_ok-drop_rest.ensures.reads.count
          (none_failed (g.R.Source.failed_calls c.args.reader.now) (g.R.Source.failed_calls c.find_line_above.new.source) c.in_ok-lacking.ensures.calls.reads c.in_ok-count.ensures.reads.count);
      writes = c.in_ok-lacking.ensures.calls.writes;
    }

pub returns-clause-none : goal.returns-clause-none
returns-clause-none g c = λ none. answered _ refl none

pub returns-clause-stopped : goal.returns-clause-stopped
returns-clause-stopped g c = record { torn = λ torn. answered _ refl torn; prefix = tt; less = λ write. answered _ refl write }

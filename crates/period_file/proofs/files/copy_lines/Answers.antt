use Rattle.std.proofs.Common.{ℕ, rules, arith}
use Rattle.std.proofs.lemmas.Result.{err_from_is_err_and}
use Rattle.period_file.specs.Inner.Reading.{Copies}
use Rattle.period_file.proofs.Failing.{calls_of_answer, calls_of_reading, calls_of_write, never_write, none_failed, one_fault, passed}
use Rattle.period_file.proofs.Taking.{copies_on, copies_read, on_err, stops_at_read, stops_at_write, stops_some}
use Rattle.period_file.proofs.files.copy_lines.Given as given
use Rattle.period_file.proofs.files.copy_lines.Goals.{After-line_end}
use Rattle.period_file.proofs.files.copy_lines.Goals as goal

-- lines were copied, and more was read
copied : (g : given.Over) (c : After-line_end g) → Copies c.args.count c.loop-lacking.lacking c.args.unread.now.bytes c.line_end.new.unread.bytes c.args.unread.now.read c.line_end.new.unread.read
    (g.S.Source.remaining c.args.source.now) (g.S.Source.remaining c.line_end.new.source) (g.W.Sink.contents c.args.writer.now) (g.W.Sink.contents c.loop-lacking.writer)
copied g c = copies_read c.loop-lacking.invariant.copied c.line_end.ensures.takes

pub returns-in_err-line_end-clause-stopped : goal.returns-in_err-line_end-clause-stopped
returns-in_err-line_end-clause-stopped g c = on_err c.from_residual.result (stops_at_read (copied g (goal.at.returns-in_err-line_end-clause-stopped g c).After-line_end))

pub returns-in_default-clause-copied : goal.returns-in_default-clause-copied
returns-in_default-clause-copied g c = copied g (goal.at.returns-in_default-clause-copied g c).After-line_end

pub returns-in_err-lacking-clause-stopped : goal.returns-in_err-lacking-clause-stopped
returns-in_err-lacking-clause-stopped g c =
    on_err c.from_residual-in_err-lacking.result
    (rw c.copy_ahead.ensures.read (stops_some (stops_at_write (copied g (goal.at.returns-in_err-lacking-clause-stopped g c).After-line_end) c.in_err-lacking.ensures.stopped)))

pub returns-in_err-lacking-clause-short : goal.returns-in_err-lacking-clause-short
returns-in_err-lacking-clause-short g c = λ is.
    let copies = copied g (goal.at.returns-in_err-lacking-clause-short g c).After-line_end in
    rw c.copy_ahead.ensures.read (stops_at_write copies c.in_err-lacking.ensures.stopped)

pub loop-lacking-preserved : goal.loop-lacking-preserved
loop-lacking-preserved g c =
    let copies = copied g (goal.at.loop-lacking-preserved g c).After-line_end in
    record {
      copied = rw c.copy_ahead.ensures.read (copies_on copies c.in_ok-lacking.ensures.copied (omega (arith, c.in_ok-lacking.ensures.share.few)));
      short = rw c.copy_ahead.ensures.read c.in_ok-line_end.ensures.reads.within;
      quiet = (
        none_failed (g.S.Source.failed_calls c.args.source.now) (g.S.Source.failed_calls c.loop-lacking.source) c.in_ok-line_end.ensures.reads.count c.loop-lacking.invariant.quiet.0,
        none_failed (g.W.Sink.failed_calls c.args.writer.now) (g.W.Sink.failed_calls c.loop-lacking.writer) c.in_ok-lacking.ensures.count c.loop-lacking.invariant.quiet.1,
      );
    }

pub returns-clause-copied : goal.returns-clause-copied
returns-clause-copied g c = search rules

-- ---- which calls failed

pub returns-in_err-line_end-clause-short : goal.returns-in_err-line_end-clause-short
returns-in_err-line_end-clause-short g c = λ write.
    never_write c.in_err-line_end.field-0.0 (one_fault (passed (err_from_is_err_and c.from_residual.result c.from_residual.ensures.1)) write)

pub returns-in_err-line_end-clause-calls : goal.returns-in_err-line_end-clause-calls
returns-in_err-line_end-clause-calls g c =
    calls_of_reading c.in_err-line_end.field-0.0 (g.S.Source.failed_calls c.args.source.now) (g.W.Sink.failed_calls c.args.writer.now)
    (passed (err_from_is_err_and c.from_residual.result c.from_residual.ensures.1)) c.loop-lacking.invariant.quiet.0 c.loop-lacking.invariant.quiet.1 c.in_err-line_end.ensures.reads

pub returns-in_default-clause-calls : goal.returns-in_default-clause-calls
returns-in_default-clause-calls g c =
    calls_of_answer _ (g.S.Source.failed_calls c.args.source.now) (g.W.Sink.failed_calls c.args.writer.now)
    c.loop-lacking.invariant.quiet.0 c.loop-lacking.invariant.quiet.1 c.in_ok-line_end.ensures.reads

pub returns-in_err-lacking-clause-calls : goal.returns-in_err-lacking-clause-calls
returns-in_err-lacking-clause-calls g c =
    calls_of_write ℕ (g.S.Source.failed_calls c.args.source.now) (g.W.Sink.failed_calls c.args.writer.now)
    (passed (err_from_is_err_and c.from_residual-in_err-lacking.result c.from_residual-in_err-lacking.ensures.1)) c.in_err-lacking.ensures.fault c.copy_ahead.ensures.read
    (none_failed (g.S.Source.failed_calls c.args.source.now) (g.S.Source.failed_calls c.loop-lacking.source) c.in_ok-line_end.ensures.reads.count c.loop-lacking.invariant.quiet.0) c.loop-lacking.invariant.quiet.1 c.in_ok-line_end.ensures.reads.most c.in_err-lacking.ensures.count

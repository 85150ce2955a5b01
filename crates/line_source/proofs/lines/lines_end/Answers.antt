-- Where a fault stops it, fewer lines are ahead than are asked for.
use Rattle.std.proofs.Common.{◌<◌, ◌∙◌, Err, ap, drop, length}
use Rattle.std.proofs.lemmas.Result.{err_from_is_err_and}
use Rattle.metering_model.specs.BatchReading.{lines_in}
use Rattle.line_source.specs.Lines.{AreShort}
use Rattle.line_source.specs.Reading.{StopsShort}
use Rattle.line_source.proofs.Calling.{on_fault, takes_none}
use Rattle.line_source.proofs.Taking.{stops_on}
use Rattle.line_source.proofs.lines.lines_end.Goals as goal

pub returns-in_err-found-clause-stopped : goal.returns-in_err-found-clause-stopped
returns-in_err-found-clause-stopped g c =
    let told = err_from_is_err_and c.from_residual.result c.from_residual.ensures.1 in
    on_fault (StopsShort (λ held. length (lines_in (drop c.args.from held)).lines < c.args.count) c.args.unread.now.bytes c.lines_end_within.new.unread.bytes) (told.1 ∙ ap Err told.2)
    (stops_on (AreShort c.args.from c.args.count 18_446_744_073_709_551_615) (λ held. length (lines_in (drop c.args.from held)).lines < c.args.count) c.in_err-found.field-0.0 (takes_none c.args.unread.now.bytes c.args.unread.now.read (g.S.Source.remaining c.args.source.now))
    c.lines_end_within.ensures.takes (λ before short. short.0) c.in_err-found.ensures.stopped)

-- More was read only while no line feed was ahead: what did not suffice for a line did not have its line feed.
use Rattle.std.proofs.Common.{◌≡◌, ◌∙◌, Err, ap, true}
use Rattle.std.proofs.lemmas.Result.{err_from_is_err_and}
use Rattle.metering_model.specs.Batch.{lacks}
use Rattle.line_source.specs.Inner.Wants.{IsLineShort}
use Rattle.line_source.specs.Reading.{StopsShort}
use Rattle.line_source.proofs.Calling.{on_fault, takes_none}
use Rattle.line_source.proofs.Taking.{stops_on, while_for}
use Rattle.line_source.proofs.lines.line_end.Goals as goal

pub returns-in_err-found-clause-last : goal.returns-in_err-found-clause-last
returns-in_err-found-clause-last g c = while_for (λ before short. short.0) c.line_length.ensures.last

pub returns-clause-last : goal.returns-clause-last
returns-clause-last g c = while_for (λ before short. short.0) c.line_length.ensures.last

pub returns-in_err-found-clause-stopped : goal.returns-in_err-found-clause-stopped
returns-in_err-found-clause-stopped g c =
    let told = err_from_is_err_and c.from_residual.result c.from_residual.ensures.1 in
    on_fault (StopsShort (λ held. lacks 10 held ≡ true) c.args.unread.now.bytes c.line_length.new.unread.bytes) (told.1 ∙ ap Err told.2)
    (stops_on (IsLineShort 0 18_446_744_073_709_551_615) (λ held. lacks 10 held ≡ true) c.in_err-found.field-0.0 (takes_none c.args.unread.now.bytes c.args.unread.now.read (g.S.Source.remaining c.args.source.now)) c.line_length.ensures.takes
    (λ before short. short.0) c.in_err-found.ensures.stopped)

-- What is read of the text is what is read of the rest, with what is kept so far.
use Rattle.std.proofs.Common.{length}
use Rattle.metering_model.specs.BatchReading.{lines_in}
use Rattle.log_text.proofs.ReadLogs.{ReadsOn}
use Rattle.log_text.proofs.reading.add_increments.Given as goal

abbrev pub invariant-loop-here : goal.invariant-loop-here
invariant-loop-here l = ReadsOn l.text l.first l.fn.parts l.line l.parts l.rest

abbrev pub decreases-loop-here : goal.decreases-loop-here
decreases-loop-here l = length (lines_in l.rest).lines

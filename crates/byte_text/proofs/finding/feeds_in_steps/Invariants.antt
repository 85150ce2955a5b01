-- What was counted and what the rest has make up the whole.
use Rattle.std.proofs.Common.{◌≡◌, ◌+◌, ◌≤◌, length}
use Rattle.metering_model.specs.Transcript.{line_count}
use Rattle.byte_text.proofs.finding.feeds_in_steps.Given as goal

abbrev pub invariant-loop-rest : goal.invariant-loop-rest
invariant-loop-rest g l = (line_count l.text ≡ l.count + line_count l.rest) × (l.count + length l.rest ≤ length l.text)

abbrev pub decreases-loop-rest : goal.decreases-loop-rest
decreases-loop-rest g l = length l.rest

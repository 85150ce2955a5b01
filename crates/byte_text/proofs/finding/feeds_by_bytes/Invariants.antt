-- So many line feeds were passed, each one byte.
use Rattle.std.proofs.Common.{◌≡◌, ◌≤◌, take}
use Rattle.metering_model.specs.Transcript.{line_count}
use Rattle.byte_text.proofs.finding.feeds_by_bytes.Given as goal

abbrev pub invariant-loop-byte : goal.invariant-loop-byte
invariant-loop-byte l = (l.count ≡ line_count (take l.byte-index l.text)) × (l.count ≤ l.byte-index)

use Rattle.transcript_laws.proofs.EveryTranscript.{holds_of_bytes}
use Rattle.transcript_laws.proofs.laws.a_transcript_shows_one_file_a_period.Goals as goal

pub returns : goal.returns
returns c = holds_of_bytes

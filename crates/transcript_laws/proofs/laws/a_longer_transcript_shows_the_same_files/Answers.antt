use Rattle.transcript_laws.proofs.LongerTranscripts.{text_goes_on, still_shown, shown_when_torn, shown_by_whole_lines}
use Rattle.transcript_laws.proofs.laws.a_longer_transcript_shows_the_same_files.Goals as goal

pub returns-clause-goes_on : goal.returns-clause-goes_on
returns-clause-goes_on c = text_goes_on

pub returns-clause-shows : goal.returns-clause-shows
returns-clause-shows c = still_shown

pub returns-clause-torn : goal.returns-clause-torn
returns-clause-torn c = shown_when_torn

pub returns-clause-whole_lines : goal.returns-clause-whole_lines
returns-clause-whole_lines c = shown_by_whole_lines

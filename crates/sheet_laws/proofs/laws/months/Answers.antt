use Rattle.sheet_laws.proofs.Months.{file_stays, names_of_export}
use Rattle.sheet_laws.proofs.ShownMonths.{both_show, both_alike}
use Rattle.sheet_laws.proofs.SameTranscripts.{transcript_stays}
use Rattle.sheet_laws.proofs.laws.months.Goals as goal

pub returns-clause-files : goal.returns-clause-files
returns-clause-files c = λ voters observers agents old new issuer events day goes s has. file_stays voters observers agents old issuer events s has new day goes

pub returns-clause-shown : goal.returns-clause-shown
returns-clause-shown c = both_show

pub returns-clause-same : goal.returns-clause-same
returns-clause-same c = both_alike

pub returns-clause-transcripts : goal.returns-clause-transcripts
returns-clause-transcripts c = transcript_stays

pub returns-clause-named : goal.returns-clause-named
returns-clause-named c = λ voters observers agents old new issuer events names s has. names_of_export voters observers agents old issuer events s has new names

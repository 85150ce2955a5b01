use Rattle.transcript_laws.proofs.CutOut.{cut_out_whole, cut_out_torn, cut_out_none, never_cut_torn}
use Rattle.transcript_laws.proofs.laws.what_is_cut_out_is_the_periods_file.Goals as goal

pub returns-clause-whole : goal.returns-clause-whole
returns-clause-whole c = cut_out_whole

pub returns-clause-torn : goal.returns-clause-torn
returns-clause-torn c = cut_out_torn

pub returns-clause-none : goal.returns-clause-none
returns-clause-none c = cut_out_none

pub returns-clause-never_torn : goal.returns-clause-never_torn
returns-clause-never_torn c = never_cut_torn

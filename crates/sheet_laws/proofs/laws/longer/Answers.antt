use Rattle.sheet_laws.proofs.LongerSheets.{goes_on, prices_all, named}
use Rattle.sheet_laws.proofs.ChainedSheets.{chained, earlier, names}
use Rattle.sheet_laws.proofs.laws.longer.Goals as goal

pub returns-clause-goes_on : goal.returns-clause-goes_on
returns-clause-goes_on c = goes_on

pub returns-clause-priced : goal.returns-clause-priced
returns-clause-priced c = prices_all

pub returns-clause-named : goal.returns-clause-named
returns-clause-named c = named

pub returns-clause-chained : goal.returns-clause-chained
returns-clause-chained c = chained

pub returns-clause-earlier : goal.returns-clause-earlier
returns-clause-earlier c = earlier

pub returns-clause-names : goal.returns-clause-names
returns-clause-names c = names

use Rattle.price_change_laws.proofs.FitUnderLast.{fit_under_last, exported_under_last}
use Rattle.price_change_laws.proofs.KeptActs.{all_kept, changes_nothing}
use Rattle.price_change_laws.proofs.laws.prices_may_change.Goals as goal

pub returns-clause-history : goal.returns-clause-history
returns-clause-history c = λ g acts history taken. (all_kept g acts history taken).history

pub returns-clause-answers : goal.returns-clause-answers
returns-clause-answers c = λ g acts history taken. (all_kept g acts history taken).answered

pub returns-clause-processes : goal.returns-clause-processes
returns-clause-processes c = λ g acts history taken. (all_kept g acts history taken).leads

pub returns-clause-left_out : goal.returns-clause-left_out
returns-clause-left_out c = changes_nothing

pub returns-clause-fit : goal.returns-clause-fit
returns-clause-fit c = fit_under_last

pub returns-clause-unfit : goal.returns-clause-unfit
returns-clause-unfit c = exported_under_last

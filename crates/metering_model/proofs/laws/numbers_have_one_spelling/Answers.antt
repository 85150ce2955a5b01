use Rattle.std.proofs.Common.{◌∙◌, sym}
use Rattle.std.proofs.lemmas.Option.{same_Some}
use Rattle.metering_model.proofs.NumberLaws.{spelled_number, spelling_spells, spelling_unique}
use Rattle.metering_model.proofs.laws.numbers_have_one_spelling.Goals as goal

pub returns-clause-spelled : goal.returns-clause-spelled
returns-clause-spelled c = spelling_spells

pub returns-clause-unique : goal.returns-clause-unique
returns-clause-unique c = spelling_unique

pub returns-clause-one_number : goal.returns-clause-one_number
returns-clause-one_number c = λ places text m n one other. same_Some m n (sym (spelled_number places text m one) ∙ spelled_number places text n other)

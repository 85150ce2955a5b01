-- One that is held stays.
use Rattle.std.proofs.Common.{rules}
use Rattle.focus_csv.proofs.numbers.set_price.Goals as goal

pub returns-in-true-Some-Some : goal.returns-in-true-Some-Some
returns-in-true-Some-Some c = search rules

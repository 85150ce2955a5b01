-- One that is held stays where its text does.
use Rattle.std.proofs.Common.{rules}
use Rattle.focus_csv.proofs.texts.set_single.Goals as goal

pub returns : goal.returns
returns c = search rules

-- Pieces that are held are those of the row before. At an error they are forgotten.
use Rattle.std.proofs.Common.{refl}
use Rattle.std.proofs.lemmas.Result.{IfOk-from_err}
use Rattle.focus_csv.proofs.BeginningLaws.{on_err}
use Rattle.focus_csv.proofs.pieces.LinePieces.set.Goals as goal

pub set-requires : goal.set-requires
set-requires c = λ held. (c.requires held).numbers

pub returns-in_err-set-clause-of : goal.returns-in_err-set-clause-of
returns-in_err-set-clause-of c = IfOk-from_err c.from_residual.result _ c.from_residual.ensures.0

pub returns-in_err-set-clause-forgotten : goal.returns-in_err-set-clause-forgotten
returns-in_err-set-clause-forgotten c = on_err c.from_residual.result refl

pub set-requires-2 : goal.set-requires-2
set-requires-2 c = λ held. (c.requires held).texts

pub returns-in_err-set-2-clause-of : goal.returns-in_err-set-2-clause-of
returns-in_err-set-2-clause-of c = IfOk-from_err c.from_residual-in_err-set-2.result _ c.from_residual-in_err-set-2.ensures.0

pub returns-in_err-set-2-clause-forgotten : goal.returns-in_err-set-2-clause-forgotten
returns-in_err-set-2-clause-forgotten c = on_err c.from_residual-in_err-set-2.result refl

pub set_tags-requires : goal.set_tags-requires
set_tags-requires c = λ held. (c.requires held).tags

pub returns-in_err-set_tags-clause-of : goal.returns-in_err-set_tags-clause-of
returns-in_err-set_tags-clause-of c = IfOk-from_err c.from_residual-in_err-set_tags.result _ c.from_residual-in_err-set_tags.ensures.0

pub returns-in_err-set_tags-clause-forgotten : goal.returns-in_err-set_tags-clause-forgotten
returns-in_err-set_tags-clause-forgotten c = on_err c.from_residual-in_err-set_tags.result c.set_tags.ensures.held

pub returns-clause-forgotten : goal.returns-clause-forgotten
returns-clause-forgotten c = tt

-- The position that was found is the last such byte's, and there the text is cut.
use Rattle.std.proofs.Common.{ap, arith}
use Rattle.record_view.specs.Parts.{lent}
use Rattle.record_view.proofs.PartLaws.{placed_cut}
use Rattle.record_view.proofs.LastPart.{parts_cut_last, parts_not_cut}
use Rattle.record_view.proofs.fields.split_at_last.Goals as goal

pub returns-in_err-position-clause-parts : goal.returns-in_err-position-clause-parts
returns-in_err-position-clause-parts c =
    rw c.from_residual.ensures (parts_not_cut c.args.byte (lent c.args.whole) c.requires c.in_err-position.ensures)

pub returns-clause-parts : goal.returns-clause-parts
returns-clause-parts c =
    parts_cut_last c.args.byte c.in_ok-position.position (lent c.args.whole) _ _ c.cut.ensures.before c.cut.ensures.after c.requires
    c.in_ok-position.ensures.0 c.in_ok-position.ensures.1

pub returns-clause-adjoin : goal.returns-clause-adjoin
returns-clause-adjoin c = omega (arith, ap (λ t. t.to) c.cut.ensures.before, ap (λ t. t.from) c.cut.ensures.after)

pub returns-clause-placed : goal.returns-clause-placed
returns-clause-placed c =
    (placed_cut c.in_ok-position.position (lent c.args.whole) _ _ c.cut.ensures.before c.cut.ensures.after c.requires c.in_ok-position.ensures.0.high).0

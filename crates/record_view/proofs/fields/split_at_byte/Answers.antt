-- The position that was found is the first such byte's, and there the text is split.
use Rattle.std.proofs.Common.{◌≡◌, ◌==◌, ◌∙◌, sym, ap, false, is_some}
use Rattle.std.specs.List.{list_any}
use Rattle.record_view.specs.Parts.{lent}
use Rattle.record_view.proofs.PartLaws.{found_any, found_at, parts_whole, parts_cut, texts_cut, placed_cut, shorter_cut}
use Rattle.record_view.proofs.fields.split_at_byte.Goals as goal

pub returns-in_err-position-clause-found : goal.returns-in_err-position-clause-found
returns-in_err-position-clause-found c =
    rw c.from_residual.ensures (ap is_some c.in_err-position.ensures ∙ found_any (λ x. x == c.args.byte) c.args.whole.text.now)

pub returns-in_err-position-clause-parts : goal.returns-in_err-position-clause-parts
returns-in_err-position-clause-parts c =
    let text = c.args.whole.text.now in
    let none : list_any (λ x. x == c.args.byte) text ≡ false =
    sym (found_any (λ x. x == c.args.byte) text) ∙ sym (ap is_some c.in_err-position.ensures) in
    rw c.from_residual.ensures (parts_whole c.args.byte (lent c.args.whole) c.requires none)

pub returns-clause-found : goal.returns-clause-found
returns-clause-found c =
    ap is_some c.in_ok-position.ensures ∙ found_any (λ x. x == c.args.byte) c.args.whole.text.now

pub returns-clause-parts : goal.returns-clause-parts
returns-clause-parts c =
    parts_cut c.args.byte c.in_ok-position.position (lent c.args.whole) _ _ c.cut.ensures.before c.cut.ensures.after (sym c.in_ok-position.ensures)

pub returns-clause-texts : goal.returns-clause-texts
returns-clause-texts c =
    texts_cut c.args.byte c.in_ok-position.position (lent c.args.whole) _ _ c.cut.ensures.before c.cut.ensures.after (sym c.in_ok-position.ensures)

pub returns-clause-shorter : goal.returns-clause-shorter
returns-clause-shorter c =
    shorter_cut c.in_ok-position.position (lent c.args.whole) _ _ c.cut.ensures.before c.cut.ensures.after
    (found_at (λ x. x == c.args.byte) c.args.whole.text.now c.in_ok-position.position (sym c.in_ok-position.ensures)).1

pub returns-clause-placed : goal.returns-clause-placed
returns-clause-placed c =
    placed_cut c.in_ok-position.position (lent c.args.whole) _ _ c.cut.ensures.before c.cut.ensures.after c.requires
    (found_at (λ x. x == c.args.byte) c.args.whole.text.now c.in_ok-position.position (sym c.in_ok-position.ensures)).1

-- The scan has passed plain bytes alone, and stopped at the bar.
use Rattle.std.proofs.Common.{sym, ap, ◌∙◌}
use Rattle.std.proofs.lemmas.Bool.{false≢true}
use Rattle.record_view.specs.Parts.{lent}
use Rattle.record_view.specs.Plain.{is_plain}
use Rattle.record_view.proofs.PartLaws.{found_at, parts_cut, placed_cut}
use Rattle.record_view.proofs.PlainLaws.{first_is, front_plain, none_found}
use Rattle.record_view.proofs.NoneFound.{stops_at_bar}
use Rattle.record_view.proofs.plain.split_plain.Goals as goal

pub returns-clause-parts : goal.returns-clause-parts
returns-clause-parts c =
    parts_cut 124 c.in_ok-at.at (lent c.args.whole) _ _ c.cut.ensures.before c.cut.ensures.after
    (first_is 124 c.args.whole.text.now c.in_ok-at.at (sym c.in_ok-at.ensures) c.if-whole-at-ne124.false)

pub returns-clause-plain : goal.returns-clause-plain
returns-clause-plain c =
    ap (λ t. is_plain t.text) c.cut.ensures.before ∙ front_plain 124 c.args.whole.text.now c.in_ok-at.at (sym c.in_ok-at.ensures)

pub returns-clause-placed : goal.returns-clause-placed
returns-clause-placed c =
    placed_cut c.in_ok-at.at (lent c.args.whole) _ _ c.cut.ensures.before c.cut.ensures.after c.requires
    (found_at _ c.args.whole.text.now c.in_ok-at.at (sym c.in_ok-at.ensures)).1

pub returns-in_err-at-clause-none : goal.returns-in_err-at-clause-none
returns-in_err-at-clause-none c =
    rw c.from_residual.ensures (λ plain. none_found 124 c.args.whole.text.now (sym c.in_err-at.ensures))

pub returns-then-whole-at-ne124-clause-none : goal.returns-then-whole-at-ne124-clause-none
returns-then-whole-at-ne124-clause-none c = λ plain.
    absurd (false≢true (sym (stops_at_bar c.args.whole.text.now c.in_ok-at.at (sym c.in_ok-at.ensures) c.if-whole-at-ne124.true) ∙ plain))

-- A stamp has no bar, so the bar behind it is the first.
use Rattle.std.proofs.Common.{◌≡◌, ◌<◌, is_some, length, get_or, sym, ap, ◌∙◌, arith}
use Rattle.metering_model.specs.Dates.{stamp_in}
use Rattle.record_view.specs.Parts.{lent}
use Rattle.record_view.proofs.PartLaws.{parts_cut, placed_cut}
use Rattle.record_view.proofs.PlainLaws.{stamp_bar}
use Rattle.record_view.proofs.NoneFound.{stamp_of_two}
use Rattle.record_view.proofs.PlainParts.{stamp_taken}
use Rattle.record_view.proofs.plain.split_stamp.Goals as goal
use Rattle.record_view.proofs.plain.split_stamp.Goals.{then-whole-le20-via-then-whole-le20, then-whole-le20-via-else-whole-le20+then-whole-ne124}

pub returns-clause-parts : goal.returns-clause-parts
returns-clause-parts c = λ stamp.
    let text = c.args.whole.text.now in
    let long : 20 < length text = omega arith in
    let bar : get_or text 20 0 ≡ 124 = omega arith in
    parts_cut 124 20 (lent c.args.whole) _ _ c.cut.ensures.before c.cut.ensures.after
    (stamp_bar text long bar (ap (λ t. is_some (stamp_in t.text)) (sym c.cut.ensures.before) ∙ stamp))

pub returns-clause-placed : goal.returns-clause-placed
returns-clause-placed c =
    let long : 20 < length c.args.whole.text.now = omega arith in
    (placed_cut 20 (lent c.args.whole) _ _ c.cut.ensures.before c.cut.ensures.after c.requires long).1

pub returns-then-whole-le20-clause-none : goal.returns-then-whole-le20-clause-none
returns-then-whole-le20-clause-none c = λ first second others parts stamp.
    let at = stamp_of_two (lent c.args.whole) first second others c.requires parts stamp in
    elim c.then-whole-le20.branch [
      | then-whole-le20-via-then-whole-le20 w ↦ omega (arith, at.within, w.if-whole-le20)
      | then-whole-le20-via-else-whole-le20+then-whole-ne124 w ↦ w.if-whole-ne124.true at.here
    ]

pub returns-clause-first : goal.returns-clause-first
returns-clause-first c = stamp_taken (lent c.args.whole) _ _ c.cut.ensures.before c.cut.ensures.after c.requires

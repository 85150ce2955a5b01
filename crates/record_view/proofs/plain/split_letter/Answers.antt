-- The first byte is no bar, and the second is one.
use Rattle.std.proofs.Common.{arith}
use Rattle.record_view.specs.Parts.{lent}
use Rattle.record_view.proofs.PartLaws.{parts_cut}
use Rattle.record_view.proofs.PlainTags.{second_is}
use Rattle.record_view.proofs.NoneFound.{byte_of_two}
use Rattle.record_view.proofs.plain.split_letter.Goals as goal
use Rattle.record_view.proofs.plain.split_letter.Goals.{then-whole-lt2-via-then-whole-lt2, then-whole-lt2-via-else-whole-lt2+then-whole-eq124, then-whole-lt2-via-else-whole-lt2+else-whole-eq124+then-whole-ne124}

pub returns-clause-parts : goal.returns-clause-parts
returns-clause-parts c =
    let text = c.args.whole.text.now in
    parts_cut 124 1 (lent c.args.whole) _ _ c.cut.ensures.before c.cut.ensures.after
    (second_is 124 text (omega arith) c.if-whole-eq124.false c.if-whole-ne124.false)

pub returns-then-whole-lt2-clause-none : goal.returns-then-whole-lt2-clause-none
returns-then-whole-lt2-clause-none c = λ first second others parts one.
    let at = byte_of_two (lent c.args.whole) first second others c.requires parts one in
    elim c.then-whole-lt2.branch [
      | then-whole-lt2-via-then-whole-lt2 w ↦ omega (arith, at.within, w.if-whole-lt2)
      | then-whole-lt2-via-else-whole-lt2+then-whole-eq124 w ↦ at.before 0 (omega arith) w.if-whole-eq124.true
      | then-whole-lt2-via-else-whole-lt2+else-whole-eq124+then-whole-ne124 w ↦ w.if-whole-ne124.true at.here
    ]

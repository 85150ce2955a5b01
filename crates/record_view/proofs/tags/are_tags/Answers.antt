-- The empty text is tags, and another one is if its parts rise.
use Rattle.std.proofs.Common.{◌<◌, length, ◌∙◌, sym, arith}
use Rattle.std.proofs.lemmas.Bool.{eqb-true, eqb-false}
use Rattle.record_view.specs.Parts.{lent}
use Rattle.record_view.proofs.TagLaws.{no_tags, tags_rise}
use Rattle.record_view.proofs.tags.are_tags.Goals as goal

pub returns-then-is_empty : goal.returns-then-is_empty
returns-then-is_empty c =
    let text = c.args.text.text.now in
    c.if-is_empty.true ∙ sym (no_tags text (eqb-true (length text) 0 (sym c.is_empty.ensures ∙ c.if-is_empty.true)))

pub returns-else-is_empty : goal.returns-else-is_empty
returns-else-is_empty c =
    let text = c.args.text.text.now in
    let ne = eqb-false (length text) 0 (sym c.is_empty.ensures ∙ c.if-is_empty.false) in
    let some : 0 < length text = omega arith in
    c.keys_rise.ensures ∙ sym (tags_rise (lent c.args.text) some)

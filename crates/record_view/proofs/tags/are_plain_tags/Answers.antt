-- The empty text is tags without bars, and another one is if its parts rise.
use Rattle.std.proofs.Common.{◌<◌, ◌==◌, length, refl, ◌∙◌, sym, ap, arith}
use Rattle.std.specs.List.{list_any}
use Rattle.std.proofs.lemmas.Bool.{eqb-true, eqb-false}
use Rattle.std.proofs.lemmas.List.{nil_from_length}
use Rattle.record_view.specs.Parts.{lent}
use Rattle.record_view.proofs.TagLaws.{no_tags, tags_rise}
use Rattle.record_view.proofs.tags.are_plain_tags.Goals as goal

pub returns-then-is_empty-clause-tags : goal.returns-then-is_empty-clause-tags
returns-then-is_empty-clause-tags c = λ yes.
    let text = c.args.text.text.now in
    no_tags text (eqb-true (length text) 0 (sym c.is_empty.ensures ∙ c.if-is_empty.true))

pub returns-then-is_empty-clause-bars : goal.returns-then-is_empty-clause-bars
returns-then-is_empty-clause-bars c = λ yes.
    let text = c.args.text.text.now in
    ap (list_any (λ x. x == 124)) (nil_from_length text (eqb-true (length text) 0 (sym c.is_empty.ensures ∙ c.if-is_empty.true)))

pub returns-else-is_empty-clause-tags : goal.returns-else-is_empty-clause-tags
returns-else-is_empty-clause-tags c = λ yes.
    let text = c.args.text.text.now in
    let ne = eqb-false (length text) 0 (sym c.is_empty.ensures ∙ c.if-is_empty.false) in
    let some : 0 < length text = omega arith in
    tags_rise (lent c.args.text) some ∙ c.plain_keys_rise.ensures.rise yes

pub returns-then-is_empty-clause-all : goal.returns-then-is_empty-clause-all
returns-then-is_empty-clause-all c = λ plain tags. refl

pub returns-else-is_empty-clause-all : goal.returns-else-is_empty-clause-all
returns-else-is_empty-clause-all c = λ plain tags.
    let text = c.args.text.text.now in
    let ne = eqb-false (length text) 0 (sym c.is_empty.ensures ∙ c.if-is_empty.false) in
    let some : 0 < length text = omega arith in
    c.plain_keys_rise.ensures.all plain (sym (tags_rise (lent c.args.text) some) ∙ tags)

-- What was cut off at the last bar is the region, of which it was asked whether it is a text.
use Rattle.std.proofs.Common.{Some, sym, subst, ◌∙◌}
use Rattle.std.proofs.lemmas.Bool.{false≢true}
use Rattle.record_view.specs.Parts.{lent}
use Rattle.record_view.specs.Inner.LineFields.{IsBeforeRegion}
use Rattle.record_view.proofs.PlainReadings.{cut_plain}
use Rattle.record_view.proofs.regions.before_region.Goals as goal

pub returns-then-is_text-clause-before : goal.returns-then-is_text-clause-before
returns-then-is_text-clause-before c =
    let cut = c.in_ok-front-in-B2 in
    subst (λ v. IsBeforeRegion v (lent c.args.rest) (lent cut.front) (Some cut.region)) (sym c.in-B2.is)
    (record { parts = cut.ensures.parts; adjoin = cut.ensures.adjoin })

pub returns-then-is_text-clause-text : goal.returns-then-is_text-clause-text
returns-then-is_text-clause-text c = sym c.is_text.ensures ∙ c.if-is_text.true

pub returns-then-is_text-clause-plain : goal.returns-then-is_text-clause-plain
returns-then-is_text-clause-plain c = λ plain. (cut_plain (lent c.args.rest) (lent c.in_ok-front-in-B2.front) c.in_ok-front-in-B2.region c.in_ok-front-in-B2.ensures.parts plain).0

pub returns-else-is_text-clause-none : goal.returns-else-is_text-clause-none
returns-else-is_text-clause-none c = λ plain.
    let both = cut_plain (lent c.args.rest) (lent c.in_ok-front-in-B2.front) c.in_ok-front-in-B2.region c.in_ok-front-in-B2.ensures.parts plain in
    absurd (false≢true (sym (sym c.is_text.ensures ∙ c.if-is_text.false) ∙ both.1))

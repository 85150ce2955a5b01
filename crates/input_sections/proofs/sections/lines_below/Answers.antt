use Rattle.std.proofs.Common.{◌-◌, take, sym, ap, ◌∙◌, rules}
use Rattle.input_sections.proofs.SectionLaws.{section_is}
use Rattle.input_sections.proofs.sections.lines_below.Goals as goal

pub returns-clause-section : goal.returns-clause-section
returns-clause-section c =
    let below = c.args.below.now in
    let rest = c.in-Some in (
      rest.ensures.0,
      section_is c.args.count below rest.rest c.from.result c.from-2.result rest.ensures.1 c.from.ensures.value c.from-2.ensures.value
          ∙ ap (λ t. record { text = take (c.from.result - c.from-2.result) t; rest = rest.rest }) (sym c.left-left.ensures),
    )

pub returns-in_default-clause-section : goal.returns-in_default-clause-section
returns-in_default-clause-section c = search rules

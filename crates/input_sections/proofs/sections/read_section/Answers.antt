use Rattle.std.proofs.Common.{sym, rules}
use Rattle.input_sections.specs.Sections.{section_in}
use Rattle.input_sections.proofs.SectionLaws.{section_opened}
use Rattle.input_sections.proofs.sections.read_section.Goals as goal

pub returns-clause-section : goal.returns-clause-section
returns-clause-section c =
    section_opened (λ s. record { text = s.text.now; rest = s.rest }) c.args.code c.args.word.now c.args.most c.args.unread.now c.in_ok-opening.opening.now c.in_ok-opening.below c.in-Some.count c.line-line.result
    c.lines_below.result c.line-line.ensures.value c.in_ok-opening.ensures.line (sym c.in-Some.ensures.value) c.lines_below.ensures.section

pub returns-in_default-clause-section : goal.returns-in_default-clause-section
unfolding section_in
returns-in_default-clause-section c = search rules

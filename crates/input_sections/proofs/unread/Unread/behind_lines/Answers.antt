use Rattle.std.proofs.Common.{ap, sym, subst, ◌∙◌, arith, length-drop}
use Rattle.byte_text.specs.Lines.{IsPast}
use Rattle.input_sections.specs.Sections.{left}
use Rattle.input_sections.proofs.CountedLines.{past_counted}
use Rattle.input_sections.proofs.unread.Unread.behind_lines.Goals as goal

pub invariant_of-result : goal.invariant_of-result
invariant_of-result c =
    let u = c.self.inside in
    let k = c.in_ok-length.length in
    let past = subst (λ t. IsPast t c.args.count k) (c.left.ensures ∙ ap left (sym c.self.view_is)) c.in_ok-length.ensures in
    let is = c.self.invariant in (
      is.0,
      omega (arith, past.within, length-drop u.from u.text.now, is.1),
      omega (arith, past.feeds, is.2),
      past_counted u.text.now u.from u.line c.args.count k is.3 past,
    )

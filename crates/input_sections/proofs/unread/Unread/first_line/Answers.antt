use Rattle.std.proofs.Common.{◌+◌, ◌==◌, ℕ, take, drop, Ok, Err, sym, ap, ap₂, ◌∙◌, arith, length-drop}
use Rattle.std.specs.List.{position}
use Rattle.input_sections.specs.declared.faults.ScheduleFault.TheVariants.{Refused}
use Rattle.byte_text.proofs.LineLemmas.{lines_at_feed}
use Rattle.input_sections.specs.Sections.{code_of_end, left}
use Rattle.input_sections.proofs.CountedLines.{feed_counted}
use Rattle.input_sections.proofs.LineLaws.{first_none, first_some}
use Rattle.input_sections.proofs.unread.Unread.first_line.Goals as goal

pub returns-in_default-clause-line : goal.returns-in_default-clause-line
returns-in_default-clause-line c =
    let none = ap (position (λ (x : ℕ). x == 10)) (sym c.left-left.ensures) ∙ sym c.in_default.ensures in
    let code = ap (code_of_end c.args.code) (sym c.left-left.ensures) ∙ sym c.code_of_end.ensures in
    first_none c.args.code c.args.self.now none
    ∙ ap₂ (λ k line. Err (Refused k line)) code (sym (ap (λ u. u.line) c.self.view_is))

pub returns-clause-line : goal.returns-clause-line
returns-clause-line c =
    let i = c.in-Some.length in
    let found = ap (position (λ (x : ℕ). x == 10)) (sym c.left-left.ensures) ∙ sym c.in-Some.ensures in
    first_some c.args.code c.args.self.now i found
    ∙ ap₂ (λ t u. Ok (t, record u { from = u.from + i + 1; line = u.line + 1 })) (ap (take i) (sym c.left-left.ensures)) (sym c.self.view_is)

pub invariant_of-rest : goal.invariant_of-rest
invariant_of-rest c =
    let u = c.self.inside in
    let i = c.in-Some.length in
    let found = ap (position (λ (x : ℕ). x == 10)) (ap left c.self.view_is ∙ sym c.left-left.ensures) ∙ sym c.in-Some.ensures in
    let within = (lines_at_feed (drop u.from u.text.now) i found).0 in
    let is = c.self.invariant in (
      is.0,
      omega (arith, within, length-drop u.from u.text.now, is.1),
      omega (arith, is.2),
      feed_counted u.text.now u.from u.line i is.3 found,
    )

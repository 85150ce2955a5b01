use Rattle.std.proofs.Common.{◌≡◌, ℕ, ◌==◌, List, Option, Some, None, MatchOption, sym, true}
use Rattle.std.specs.List.{position}
use Rattle.metering_model.specs.Batch.{lacks}
use Rattle.line_source.specs.Lines.{IsLineAt}
use Rattle.line_source.proofs.LineTexts.{line_at, no_line}
use Rattle.line_source.proofs.lines.first_feed.Goals as goal

found : (text : List ℕ) (r : Option ℕ) → r ≡ position (λ c. c == 10) text → MatchOption r (lacks 10 text ≡ true) (IsLineAt text)
found text None is = no_line text (sym is)
found text (Some i) is = line_at text i (sym is)

pub returns : goal.returns
returns c = found c.args.text.now c.find_byte.result c.find_byte.ensures

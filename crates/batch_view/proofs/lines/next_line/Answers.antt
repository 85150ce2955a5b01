use Rattle.std.proofs.Common.{ℕ, ◌==◌, drop, sym, ap, ◌∙◌}
use Rattle.std.specs.List.{position}
use Rattle.std.proofs.lemmas.List.{take_rest}
use Rattle.batch_view.proofs.LineLemmas.{first_line}
use Rattle.record_view.proofs.LineLemmas.{lines_without_feed}
use Rattle.batch_view.proofs.lines.next_line.Goals as goal

pub returns-in_err-length : goal.returns-in_err-length
returns-in_err-length c =
    let text = c.args.text.now in
    let none = ap (position (λ (x : ℕ). x == 10)) (sym (take_rest text c.args.from)) ∙ sym (c.in_err-length.ensures) in
    rw c.from_residual.ensures (lines_without_feed (drop c.args.from text) none)

pub returns : goal.returns
returns c =
    let text = c.args.text.now in
    let found = ap (position (λ (x : ℕ). x == 10)) (sym (take_rest text c.args.from)) ∙ sym (c.in_ok-length.ensures) in
    first_line text c.args.from c.in_ok-length.length found c.requires.within

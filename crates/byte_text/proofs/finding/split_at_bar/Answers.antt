use Rattle.std.proofs.Common.{ℕ, ◌+◌, ◌==◌, ◌∷◌, take, sym, ap, ◌∙◌}
use Rattle.std.proofs.lemmas.List.{take_rest}
use Rattle.metering_model.specs.BatchReading.{fields_in}
use Rattle.byte_text.proofs.SplitLemmas.{split_at, split_nowhere}
use Rattle.byte_text.proofs.finding.split_at_bar.Goals as goal

pub returns-in_err-bar : goal.returns-in_err-bar
returns-in_err-bar c =
    rw c.from_residual.ensures (split_nowhere (λ (x : ℕ). x == 124) c.args.text.now 0 (sym (c.in_err-bar.ensures)))

pub returns : goal.returns
returns c =
    let text = c.args.text.now in
    let bar = c.in_ok-bar.bar in
    let split = split_at (λ (x : ℕ). x == 124) text bar 0 (sym (c.in_ok-bar.ensures)) in
    split.1 ∙ ap (λ t. take bar text ∷ fields_in t) (sym (take_rest text (bar + 1)))

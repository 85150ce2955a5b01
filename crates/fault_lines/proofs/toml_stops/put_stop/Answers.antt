use Rattle.std.proofs.Common.{◌++◌, sym, ap, ◌∙◌, append-nil}
use Rattle.std.proofs.lemmas.Result.{on_ok_weaker}
use Rattle.fault_lines.proofs.TomlStopLaws.{words_are}
use Rattle.fault_lines.proofs.toml_stops.put_stop.Goals as goal

pub returns-in-Some : goal.returns-in-Some
returns-in-Some c =
    let words = words_are c.args.opening c.args.text.now _ (sym c.in-Some.is ∙ c.in_ok-line.ensures) in
    on_ok_weaker c.put_numbered.result (λ is. is ∙ ap (λ t. c.args.told.now.items ++ t) words) c.put_numbered.ensures.put

pub returns-in-None : goal.returns-in-None
returns-in-None c =
    let words = words_are c.args.opening c.args.text.now _ (sym c.in-None.is ∙ c.in_ok-line.ensures) in
    sym (ap (λ t. c.args.told.now.items ++ t) (sym words) ∙ append-nil c.args.told.now.items)

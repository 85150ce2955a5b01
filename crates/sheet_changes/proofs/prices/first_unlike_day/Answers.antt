use Rattle.std.proofs.Common.{[], ◌++◌, ap₂, subst}
use Rattle.std.proofs.lemmas.List.Elements.{All-nil}
use Rattle.sheet_changes.specs.Inner.Compared.{IsFirstDay, StaysOn}
use Rattle.sheet_changes.proofs.prices.first_unlike_day.Goals as goal

pub returns : goal.returns
returns c =
    let none = All-nil (λ r. StaysOn c.args.old.now c.args.new.now r.sku r.from) in
    let first = c.with_rows-first.ensures [] none in
    let both = c.with_rows.ensures c.prices.result.now first in
    subst (λ rs. IsFirstDay c.args.old.now c.args.new.now rs c.with_rows.result) (ap₂ (λ rs more. rs ++ more) c.prices.ensures c.prices-2.ensures) both

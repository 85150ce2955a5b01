use Rattle.std.proofs.Common.{◌∷◌, ◌++◌, [], Some, rules, sym, ap, subst, ◌∙◌}
use Rattle.sheet_changes.specs.Inner.Compared.{IsFirstDay, StaysOn, earlier}
use Rattle.sheet_changes.proofs.FirstDays.{alike_row, unlike_row}
use Rattle.sheet_changes.proofs.prices.with_row.Goals as goal

pub returns : goal.returns
returns c = λ rows is.
    let row = c.args.row.now in
    let other : ¬ StaysOn c.args.old.now c.args.new.now row.sku row.from = λ stays. let yes = c.begins_alike.ensures.1 stays in absurd (search rules) in
    subst (λ d. IsFirstDay c.args.old.now c.args.new.now (rows ++ row ∷ []) (Some d)) (sym (c.earlier.ensures ∙ ap (earlier c.args.first) c.from.ensures))
    (unlike_row c.args.old.now c.args.new.now rows row c.args.first other is)

pub returns-then-begins_alike : goal.returns-then-begins_alike
returns-then-begins_alike c = λ rows is.
    alike_row c.args.old.now c.args.new.now rows c.args.row.now c.args.first (c.begins_alike.ensures.0 (search rules)) is

use Rattle.std.proofs.Common.{◌∷◌, ◌++◌, [], ap, ap₂, codes, ◌∙◌}
use Rattle.std.proofs.lemmas.Result.{IfOk-weaker}
use Rattle.sheet_changes.specs.FieldChanges.{changed_keys, price_keys, price_lines, price_text}
use Rattle.sheet_changes.proofs.listings.put_price.Goals as goal

pub returns : goal.returns
unfolding price_lines
returns c =
    let named = codes "price" ∷ c.args.at.now.0.now ∷ c.day_text-date.result ∷ [] in
    IfOk-weaker c.put_keys.result _ _
    (λ done is. (c.day_text-date.result, c.day_text-date.ensures, is ∙ ap (λ t. c.args.text.now.items ++ t) (ap₂ (λ o n. changed_keys price_text named price_keys o n) c.price.ensures c.price-2.ensures)))
    c.put_keys.ensures

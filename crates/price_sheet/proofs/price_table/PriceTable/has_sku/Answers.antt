-- A SKU has starts where a row prices it.
use Rattle.std.proofs.Common.{◌≡◌, subst, ◌∙◌, rules}
use Rattle.price_sheet.specs.SheetReading.{prices_sku}
use Rattle.price_sheet.proofs.price_table.PriceTable.has_sku.Goals as goal

pub returns : goal.returns
returns c =
    let view : c.self.inside.rows.items ≡ c.args.self.now = search rules in
    subst (λ rows. c.has_sku.result ≡ prices_sku rows c.args.sku.now) view (c.has_sku.ensures ∙ (c.self.invariant c.args.sku.now).priced)

-- A SKU with its first start.
use Rattle.std.proofs.Common.{◌≡◌, subst, rules}
use Rattle.price_sheet.specs.Inner.Places.{Puts}
use Rattle.price_sheet.proofs.PlaceLaws.{puts}
use Rattle.price_sheet.proofs.price_index.PriceIndex.put_first.Goals as goal

pub returns : goal.returns
returns c =
    let was = c.args.self.now.starts in
    let now = c.insert.new.self in
    let key : c.in_ok-key.key.items ≡ c.args.sku.now = search rules in
    let written = puts was now c.in_ok-key.key.items c.in_ok-starts.starts c.in_ok-insert.ensures.updates in
    subst (λ value. Puts c.args.sku.now value was.entries now.entries) c.in_ok-starts.ensures (subst (λ text. Puts text c.in_ok-starts.starts was.entries now.entries) key written)

-- The starts of the SKU, with one more.
use Rattle.std.proofs.Common.{◌≡◌, [], ◌∷◌, Some, None, subst, rules}
use Rattle.price_sheet.specs.Inner.Days.{with_start}
use Rattle.price_sheet.specs.Inner.Places.{found_at, Puts}
use Rattle.price_sheet.proofs.PlaceLaws.{puts}
use Rattle.price_sheet.proofs.price_index.PriceIndex.put.Goals as goal

pub returns-in_ok-add-in-Some : goal.returns-in_ok-add-in-Some
returns-in_ok-add-in-Some c =
    let was = c.args.self.now.starts in
    let now = c.get_mut.follows.lender c.add.new.self in
    let found : found_at c.args.sku.now was.entries ≡ Some c.in-Some.starts.now = search rules in
    let starts : c.add.new.self ≡ with_start c.in-Some.starts.now c.args.start = search rules in
    let written = puts was now c.args.sku.now c.add.new.self ((c.get_mut.follows.holds c.add.new.self).3 (search rules)) in
    rw found (subst (λ value. Puts c.args.sku.now value was.entries now.entries) starts written)

pub returns-in_ok-put_first-in-None : goal.returns-in_ok-put_first-in-None
returns-in_ok-put_first-in-None c =
    let was = c.args.self.now.starts in
    let now = c.put_first.new.self.starts in
    let found : found_at c.args.sku.now was.entries ≡ None = search rules in
    let same : c.get_mut.follows.lender-at-none ≡ was = search (rules, c.get_mut.follows.holds-at-none) in
    rw found (subst (λ map. Puts c.args.sku.now (c.args.start ∷ []) map.entries now.entries) same c.in_ok-put_first-in-None.ensures)

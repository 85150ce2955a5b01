use Rattle.std.proofs.Common.{ℕ, ◌+◌, List, [], ◌∷◌, ◌++◌, Bor, ℤ, map, take, ap, ap₂, ◌∙◌}
use Rattle.std.proofs.lemmas.List.{map-append}
use Rattle.sheet_changes.specs.FieldChanges.{PriceDay, price_day}
use Rattle.sheet_changes.specs.Inner.Listed.{day_of_pair}
use Rattle.sheet_changes.proofs.ListWalks.{all_of, next_of, one_more}
use Rattle.sheet_changes.proofs.orders.add_days.Goals as goal

days_of : List (Bor (List ℕ) × ℤ) → List PriceDay
days_of pairs = map day_of_pair pairs

pub loop-row-preserved : goal.loop-row-preserved
unfolding days_of
loop-row-preserved c =
    let rows = c.args.rows.now in
    let at = c.loop-row.row-index in
    let row = c.row-item.result in
    let put =
    ap days_of c.in-Ok.ensures.items
    ∙ map-append day_of_pair c.loop-row.days.items ((c.as_bytes.result, c.from.result) ∷ [])
    ∙ ap₂ (λ (sku : List ℕ) (day : ℤ). days_of c.loop-row.days.items ++ record { sku = sku; day = day } ∷ []) (c.as_bytes.ensures.value ∙ c.sku.ensures) c.from.ensures in
    one_more (map price_day) (days_of c.args.days.now.items) (days_of c.loop-row.days.items) (days_of c.push.new.self.items) (take at rows) (take (at + 1) rows) row
    (map-append price_day (take at rows) (row ∷ [])) (next_of rows at row c.loop-row-test.true c.row-item.is) put c.loop-row.invariant

pub returns : goal.returns
unfolding days_of
returns c = all_of (map price_day) (days_of c.args.days.now.items) (days_of c.loop-row.days.items) c.args.rows.now c.loop-row.row-index c.loop-row-test.false c.loop-row.invariant

use Rattle.std.proofs.Common.{ℕ, ◌+◌, List, [], ◌∷◌, ◌++◌, Bor, map, take, ap, ◌∙◌}
use Rattle.std.proofs.lemmas.List.{map-append}
use Rattle.metering_model.specs.Sheet.{Region}
use Rattle.sheet_changes.proofs.ListWalks.{all_of, next_of, one_more}
use Rattle.sheet_changes.proofs.orders.add_regions.Goals as goal

texts : List (Bor (List ℕ)) → List (List ℕ)
texts ids = map (λ id. id.now) ids

ids_of : List Region → List (List ℕ)
ids_of rows = map (λ row. row.id) rows

pub loop-row-preserved : goal.loop-row-preserved
unfolding texts ids_of
loop-row-preserved c =
    let rows = c.args.rows.now in
    let at = c.loop-row.row-index in
    let row = c.row-item.result in
    let put =
    ap texts c.in-Ok.ensures.items
    ∙ map-append (λ (id : Bor (List ℕ)). id.now) c.loop-row.ids.items (c.as_bytes.result ∷ [])
    ∙ ap (λ (t : List ℕ). texts c.loop-row.ids.items ++ t ∷ []) (c.as_bytes.ensures.value ∙ c.id.ensures) in
    one_more ids_of (texts c.args.ids.now.items) (texts c.loop-row.ids.items) (texts c.push.new.self.items) (take at rows) (take (at + 1) rows) row
    (map-append (λ (r : Region). r.id) (take at rows) (row ∷ [])) (next_of rows at row c.loop-row-test.true c.row-item.is) put c.loop-row.invariant

pub returns : goal.returns
unfolding texts ids_of
returns c = all_of ids_of (texts c.args.ids.now.items) (texts c.loop-row.ids.items) c.args.rows.now c.loop-row.row-index c.loop-row-test.false c.loop-row.invariant

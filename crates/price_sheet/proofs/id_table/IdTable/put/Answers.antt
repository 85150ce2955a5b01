-- One row more, and the place of its id.
use Rattle.std.proofs.Common.{◌≡◌, false, ◌∷◌, ◌++◌, [], length, sym, subst, rules}
use Rattle.std.specs.List.{list_any}
use Rattle.metering_model.specs.BatchReading.{is_same}
use Rattle.price_sheet.specs.Inner.Places.{Puts, IndexesBy}
use Rattle.price_sheet.proofs.PlaceLaws.{puts}
use Rattle.price_sheet.proofs.IdLaws.{one_more_id}
use Rattle.price_sheet.proofs.id_table.IdTable.put.Goals as goal

pub invariant_of-self-in-Ok : goal.invariant_of-self-in-Ok
invariant_of-self-in-Ok g c =
    let name = g.R.Named.id in
    let row = c.args.row in
    let rows = c.self.inside.rows.items in
    let place = length rows in
    let old = c.self.inside.places in
    let new = c.insert.new.self in
    let id : c.in_ok-id.id.items ≡ name row = search rules in
    let items : c.push.new.self.items ≡ rows ++ row ∷ [] = search rules in
    let at : c.len-place.result ≡ place = search rules in
    let fresh : list_any (λ x. is_same (name row) (name x)) rows ≡ false = search rules in
    let put : Puts (name row) c.len-place.result old.entries new.entries = subst (λ t. Puts t c.len-place.result old.entries new.entries) id (puts old new c.in_ok-id.id.items c.len-place.result c.in-Ok.ensures.updates) in
    subst (λ all. IndexesBy name all new.entries) (sym items) (one_more_id name rows row c.len-place.result old.entries new.entries at fresh c.self.invariant put)

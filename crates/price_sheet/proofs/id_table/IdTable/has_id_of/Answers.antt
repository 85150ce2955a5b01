-- An id that has a place has an earlier row.
use Rattle.std.proofs.Common.{◌≡◌, is_some, subst, ◌∙◌, rules}
use Rattle.std.specs.List.{list_any}
use Rattle.metering_model.specs.BatchReading.{is_same}
use Rattle.price_sheet.specs.Inner.Places.{found_at}
use Rattle.price_sheet.proofs.IdLaws.{id_found}
use Rattle.price_sheet.proofs.id_table.IdTable.has_id_of.Goals as goal

pub returns : goal.returns
returns g c =
    let name = g.R.Named.id in
    let own = name c.args.row.now in
    let entries = c.self.inside.places.entries in
    let id : c.id_bytes.result.now ≡ own = search rules in
    let has : c.contains_key.result ≡ is_some (found_at c.id_bytes.result.now entries) = c.contains_key.ensures in
    let any = subst (λ text. c.contains_key.result ≡ is_some (found_at text entries)) id has ∙ id_found name c.self.inside.rows.items c.args.row.now entries c.self.invariant in
    subst (λ rows. c.contains_key.result ≡ list_any (λ x. is_same own (name x)) rows) c.self.view_is any

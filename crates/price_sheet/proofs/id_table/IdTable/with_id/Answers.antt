-- The row at the place of the id.
use Rattle.std.proofs.Common.{◌≡◌, find, slice_get, ap, ◌∙◌, rules}
use Rattle.std.specs.Option.{option_and_then}
use Rattle.metering_model.specs.BatchReading.{is_same}
use Rattle.price_sheet.specs.Inner.Places.{StandsAt, found_at}
use Rattle.price_sheet.proofs.IdLaws.{row_stands}
use Rattle.price_sheet.proofs.id_table.IdTable.with_id.Goals as goal

pub returns : goal.returns
returns g c =
    let id = c.args.id.now in
    let rows = c.args.self.now in
    let place = found_at id c.self.inside.places.entries in
    let view : c.deref.result.now ≡ rows = search rules in
    let found = find (λ r. is_same (g.R.Named.id r) id) rows in
    let stands : StandsAt rows place found = search rules in
    c.row_placed.ensures ∙ (ap (λ all. option_and_then (slice_get all) place) view ∙ row_stands rows place found stands)

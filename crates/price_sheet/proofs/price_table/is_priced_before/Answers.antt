-- A row of the SKU and the day is the one in force on the day.
use Rattle.std.proofs.Common.{◌≡◌, ◌&&◌, Some, None, filter, int_le, rules}
use Rattle.metering_model.specs.BatchReading.{is_same}
use Rattle.metering_model.specs.PriceInForce.{latest}
use Rattle.price_sheet.proofs.LookLaws.{key_found}
use Rattle.price_sheet.proofs.price_table.is_priced_before.Goals as goal

pub returns-in-Some : goal.returns-in-Some
returns-in-Some c =
    let row = c.args.row.now in
    let found : latest (filter (λ r. is_same r.sku row.sku && int_le r.from row.from) c.args.rows.now) ≡ Some c.in-Some.earlier.now = search rules in
    rw (key_found c.args.rows.now row, found) (search rules)

pub returns-in-None : goal.returns-in-None
returns-in-None c =
    let row = c.args.row.now in
    let found : latest (filter (λ r. is_same r.sku row.sku && int_le r.from row.from) c.args.rows.now) ≡ None = search rules in
    rw (key_found c.args.rows.now row, found) (search rules)

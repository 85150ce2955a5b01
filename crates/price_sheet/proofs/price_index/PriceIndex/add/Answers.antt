-- One row more.
use Rattle.std.proofs.Common.{length, rules}
use Rattle.price_sheet.specs.declared.price_in_force.Start.{Start}
use Rattle.price_sheet.specs.Inner.Days.{with_start}
use Rattle.price_sheet.specs.Inner.Places.{found_at, starts_of, Puts}
use Rattle.price_sheet.proofs.IndexLaws.{one_more_row}
use Rattle.price_sheet.proofs.price_index.PriceIndex.add.Goals as goal

pub returns : goal.returns
returns c =
    let row = c.args.row.now in
    let place = length c.args.rows.now in
    let old = c.args.self.now.starts.entries in
    let new = c.put.new.self.starts.entries in
    let start : Start = record { day = row.from; place = place } in
    let put : Puts row.sku (with_start (starts_of (found_at row.sku old)) start) old new = search rules in
    one_more_row c.args.rows.now row place old new (search rules) c.requires.indexed put

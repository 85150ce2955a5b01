-- The row that the index shows.
use Rattle.std.proofs.Common.{◌≡◌, ◌&&◌, Some, None, option_copied, filter, int_le, slice_get, subst, ◌∙◌, rules, arith}
use Rattle.std.proofs.lemmas.Grind.{common_steps}
use Rattle.std.proofs.lemmas.Option.{gets}
use Rattle.metering_model.specs.BatchReading.{is_same}
use Rattle.metering_model.specs.PriceInForce.{latest}
use Rattle.price_sheet.specs.Inner.Days.{begun}
use Rattle.price_sheet.specs.Inner.Places.{Shows, found_at, starts_of}
use Rattle.price_sheet.proofs.LookLaws.{shown, none_shown}
use Rattle.price_sheet.proofs.price_table.row_in_force.Goals as goal

pub returns-in-Some : goal.returns-in-Some
returns-in-Some c =
    let found = latest (filter (λ r. is_same r.sku c.args.sku.now && int_le r.from c.args.day) c.args.rows.now) in
    let last : begun c.args.day (starts_of (found_at c.args.sku.now c.args.index.now.starts.entries)) ≡ Some c.in-Some.start = search rules in
    let shows = subst (λ start. Shows c.args.rows.now start found) last ((c.requires c.args.sku.now).in_force c.args.day) in
    let read : option_copied c.get.result ≡ slice_get c.args.rows.now c.in-Some.start.place = grind (arith, common_steps, gets) in
    read ∙ shown c.args.rows.now c.in-Some.start found shows

pub returns-in-None : goal.returns-in-None
returns-in-None c =
    let found = latest (filter (λ r. is_same r.sku c.args.sku.now && int_le r.from c.args.day) c.args.rows.now) in
    let last : begun c.args.day (starts_of (found_at c.args.sku.now c.args.index.now.starts.entries)) ≡ None = search rules in
    none_shown c.args.rows.now found (subst (λ start. Shows c.args.rows.now start found) last ((c.requires c.args.sku.now).in_force c.args.day))

use Rattle.std.proofs.lemmas.List.Filters.{dedup_is}
use Rattle.sheet_changes.specs.FieldChanges.{price_day, price_days}
use Rattle.sheet_changes.specs.Inner.Listed.{day_of_pair}
use Rattle.sheet_changes.proofs.SortedLists.{are_sorted, day_ties, day_total, exact_days, of_both}
use Rattle.sheet_changes.proofs.orders.put_price_days.Goals as goal

pub returns : goal.returns
returns c =
    let rows =
    of_both day_of_pair price_day c.args.days.now.items c.add_days.new.days.items c.add_days-2.new.days.items c.prices.result.now c.prices-2.result.now c.args.old.now.prices c.args.new.now.prices c.requires c.prices.ensures c.prices-2.ensures
    c.in-Ok.ensures c.in-Ok-add_days.ensures in
    are_sorted day_of_pair day_total exact_days day_ties c.add_days-2.new.days.items c.sort_unstable.new.self.items c.dedup.new.self.items (price_days c.args.old.now c.args.new.now) rows c.sort_unstable.ensures.permutation c.sort_unstable.ensures.sorted
    (dedup_is _ _ _ c.dedup.ensures.filtered)

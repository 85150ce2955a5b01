use Rattle.std.proofs.lemmas.Cmp.{nat_list_cmp_total}
use Rattle.std.proofs.lemmas.List.Filters.{dedup_is}
use Rattle.std.proofs.lemmas.Map.Lookups.{exact_bytes}
use Rattle.std.specs.Cmp.Lexicographic.{texts_ties}
use Rattle.sheet_changes.specs.FieldChanges.{region_ids}
use Rattle.sheet_changes.proofs.SortedLists.{are_sorted, of_both}
use Rattle.sheet_changes.proofs.orders.put_region_ids.Goals as goal

pub returns : goal.returns
returns c =
    let rows =
    of_both (λ id. id.now) (λ row. row.id) c.args.ids.now.items c.add_regions.new.ids.items c.add_regions-2.new.ids.items c.regions.result.now c.regions-2.result.now c.args.old.now.regions c.args.new.now.regions c.requires c.regions.ensures c.regions-2.ensures
    c.in-Ok.ensures c.in-Ok-add_regions.ensures in
    are_sorted (λ id. id.now) nat_list_cmp_total exact_bytes (λ a b. texts_ties a.now b.now) c.add_regions-2.new.ids.items c.sort_unstable.new.self.items c.dedup.new.self.items (region_ids c.args.old.now c.args.new.now) rows c.sort_unstable.ensures.permutation c.sort_unstable.ensures.sorted
    (dedup_is _ _ _ c.dedup.ensures.filtered)

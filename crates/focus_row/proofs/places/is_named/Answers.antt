use Rattle.std.proofs.Common.{map, sym, ◌∙◌}
use Rattle.std.proofs.lemmas.Bool.{not-true, not_from_false}
use Rattle.journal_rules.specs.Stores.{position_of}
use Rattle.focus_row.proofs.PlaceOrder.{found_at, named_if_first, first_if_named, none_if_past, none_past}
use Rattle.focus_row.proofs.places.is_named.Goals as goal

pub returns-in-Some : goal.returns-in-Some
returns-in-Some c =
    let ps = map position_of c.args.places.now in
    let found = found_at c.args.places.now _ _ c.in-Some.ensures.lookup.3 in (
      λ t. named_if_first ps _ _ c.first_from.ensures _ found (sym c.stands_before.ensures ∙ not-true _ t),
      λ has. not_from_false _ (c.stands_before.ensures ∙ first_if_named ps _ _ c.first_from.ensures c.requires has _ found),
    )

pub returns-in-None : goal.returns-in-None
returns-in-None c =
    let past = none_past c.args.places.now _ c.in-None.ensures.lookup.3 in
    (λ t. absurd (cc), λ has. absurd (none_if_past (map position_of c.args.places.now) _ _ c.first_from.ensures past has))

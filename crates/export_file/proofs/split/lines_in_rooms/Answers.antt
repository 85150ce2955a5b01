-- Each room has the lines of its part.
use Rattle.std.proofs.Common.{◌≡◌, ◌<◌, ◌∙◌, length, sym, subst, ap, rules, arith}
use Rattle.std.specs.List.{list_all}
use Rattle.export_file.specs.Inner.Parts.{texts_in}
use Rattle.export_file.proofs.PartLaws.{all_changed, all_joined}
use Rattle.export_file.proofs.split.lines_in_rooms.Goals as goal

pub returns-then-are_made : goal.returns-then-are_made
returns-then-are_made g c =
    let old = c.in-Ok.rooms.items in
    let new = c.fill_rooms.new.rooms in
    let same : length new ≡ length old = c.fill_rooms.ensures.len ∙ ap length c.as_mut_slice.ensures.value in
    let long : c.in-Ok.rooms.len ≡ length old = search (rules, arith) in
    let whole = all_changed old new c.in-Ok.rooms.len long same in
    let made = ap (list_all (λ room. room.is_made)) (sym whole ∙ sym c.deref.ensures.value) ∙ sym c.if-are_made.ensures in
    ap texts_in whole
    ∙ all_joined c.args.batches.now new c.args.count c.args.size (same ∙ c.in-Ok.ensures) c.requires
    (λ k d within is. c.fill_rooms.ensures.each k d (subst (λ n. k < n) c.fill_rooms.ensures.len within) is) made

use Rattle.std.proofs.Common.{List, ℕ, Option, [], ◌∷◌, ◌++◌, Bor, map, codes, ap₂, ◌∙◌}
use Rattle.std.specs.List.{flat_map}
use Rattle.sheet_changes.specs.FieldChanges.{changed, part, region_line}
use Rattle.sheet_changes.proofs.ListWalks.{all_of, put_next_text}
use Rattle.sheet_changes.proofs.listings.put_names.Goals as goal

pub loop-id-preserved : goal.loop-id-preserved
loop-id-preserved c =
    let named = λ (id : List ℕ) (had has : Option (List ℕ)). c.loop-id.text.items ++ changed (codes "region" ∷ id ∷ []) (part (λ name. name) had) (part (λ name. name) has) in
    put_next_text (region_line c.args.old.now c.args.new.now) c.args.text.now.items c.loop-id.text.items c.put_name.new.text.items c.args.ids.now c.loop-id.id-index _ c.loop-id-test.true
    (c.in-Ok.ensures ∙ ap₂ (named _) c.region.ensures c.region-in-loop-id.ensures) c.loop-id.invariant

pub returns : goal.returns
returns c =
    all_of (λ (ids : List (Bor (List ℕ))). flat_map (region_line c.args.old.now c.args.new.now) (map (λ id. id.now) ids)) c.args.text.now.items c.loop-id.text.items c.args.ids.now
    c.loop-id.id-index c.loop-id-test.false c.loop-id.invariant

use Rattle.std.proofs.Common.{[], ◌∷◌, ◌++◌, map}
use Rattle.std.specs.List.{flat_map}
use Rattle.std.specs.Option.{option_copied}
use Rattle.sheet_text.specs.Names.{key_name}
use Rattle.sheet_text.specs.declared.names.Key.{Key}
use Rattle.sheet_changes.specs.FieldChanges.{changed, part}
use Rattle.sheet_changes.proofs.ListWalks.{all_of, put_next}
use Rattle.sheet_changes.proofs.fields.put_keys.Goals as goal

pub loop-key-preserved : goal.loop-key-preserved
loop-key-preserved g c =
    let named = map (λ part. part.now) c.args.named.now in
    let line = λ (key : Key). changed (named ++ key_name key ∷ []) (part (g.R.Keyed.said key) (option_copied c.args.old)) (part (g.R.Keyed.said key) (option_copied c.args.new)) in
    put_next line c.args.text.now.items c.loop-key.text.items c.put_key.new.text.items c.args.keys.now c.loop-key.key-index _ c.loop-key-test.true c.in-Ok.ensures c.loop-key.invariant

pub returns : goal.returns
returns g c =
    let named = map (λ part. part.now) c.args.named.now in
    let line = λ (key : Key). changed (named ++ key_name key ∷ []) (part (g.R.Keyed.said key) (option_copied c.args.old)) (part (g.R.Keyed.said key) (option_copied c.args.new)) in
    all_of (flat_map line) c.args.text.now.items c.loop-key.text.items c.args.keys.now c.loop-key.key-index c.loop-key-test.false c.loop-key.invariant

use Rattle.std.proofs.Common.{◌≡◌, ◌++◌, map, take}
use Rattle.std.specs.Option.{option_copied}
use Rattle.sheet_changes.specs.FieldChanges.{changed_keys}
use Rattle.sheet_changes.proofs.fields.put_keys.Given as goal

abbrev pub invariant-loop-key : goal.invariant-loop-key
invariant-loop-key g l =
    l.text.items ≡ l.fn.text.items ++ changed_keys g.R.Keyed.said (map (λ part. part.now) l.named) (take l.key-index l.keys) (option_copied l.old) (option_copied l.new)

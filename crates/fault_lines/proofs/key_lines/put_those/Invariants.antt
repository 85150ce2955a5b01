use Rattle.std.proofs.Common.{◌≡◌, ◌-◌, not, ◌++◌, drop, filter, length, take}
use Rattle.std.specs.List.{flat_map}
use Rattle.fault_lines.specs.UnknownKeys.{is_key, told_unknown}
use Rattle.fault_lines.proofs.key_lines.put_those.Given as goal

-- What is still to be told is of the keys from the index on, and those before it are left.
abbrev pub invariant-loop-index : goal.invariant-loop-index
invariant-loop-index l = record {
  told : l.told.items ++ flat_map (told_unknown l.line) (filter (is_key l.table l.name) (drop l.index l.keys.items))
      ≡ l.fn.told.items ++ flat_map (told_unknown l.line) (filter (is_key l.table l.name) l.fn.keys.items);
  left : take l.index l.keys.items ++ filter (λ k. not (is_key l.table l.name k)) (drop l.index l.keys.items)
      ≡ filter (λ k. not (is_key l.table l.name k)) l.fn.keys.items;
}

abbrev pub decreases-loop-index : goal.decreases-loop-index
decreases-loop-index l = length l.keys.items - l.index

use Rattle.std.proofs.Common.{◌≡◌}
use Rattle.toml.specs.View.{members_view}
use Rattle.fault_lines.specs.UnknownKeys.{with_table}
use Rattle.fault_lines.proofs.unknown_keys.add_table.Given as goal

-- The keys that are left add what is still to be added.
abbrev pub invariant-loop-key : goal.invariant-loop-key
invariant-loop-key l =
    (goal.iterator-loop-key).can_next l.key-iterator × (goal.iterator-loop-key).is_finite l.key-iterator
    × (with_table l.taken l.table l.found.items (members_view l.key-iterator) ≡ with_table l.taken l.table l.fn.found.items (members_view l.members.entries))

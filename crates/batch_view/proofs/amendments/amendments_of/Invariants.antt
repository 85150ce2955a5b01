use Rattle.std.proofs.Common.{◌≡◌, take, All}
use Rattle.batch_view.specs.Inner.Amended.{amendments_kept, IsSmall}
use Rattle.batch_view.proofs.amendments.amendments_of.Given as goal

-- the amendments so far
abbrev pub invariant-loop-own : goal.invariant-loop-own
invariant-loop-own l = record {
  so_far : l.found.items ≡ amendments_kept (take l.own l.entries);
  small : All IsSmall l.found.items;
}

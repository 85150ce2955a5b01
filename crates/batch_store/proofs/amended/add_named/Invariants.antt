use Rattle.std.proofs.Common.{◌≡◌, ◌++◌, take}
use Rattle.std.specs.List.{filter_map}
use Rattle.batch_store.specs.Inner.Amended.{named_place}
use Rattle.batch_store.proofs.amended.add_named.Given as goal

abbrev pub invariant-loop-amendment : goal.invariant-loop-amendment
invariant-loop-amendment l = l.places.items ≡ l.fn.places.items ++ filter_map (named_place l.agent l.upto) (take l.amendment-index l.amendments)

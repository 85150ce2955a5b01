use Rattle.std.proofs.Common.{rules}
use Rattle.std.proofs.lemmas.List.Sorted.{IsNonDecreasingBy-from_sort_by_key, All-permutation}
use Rattle.batch_view.specs.Inner.Amended.{rank, IsSmall}
use Rattle.batch_view.proofs.amendments.sort.Goals as goal

pub returns-clause-rising : goal.returns-clause-rising
returns-clause-rising c = IsNonDecreasingBy-from_sort_by_key rank _ c.sort_unstable_by_key.ensures.sorted (λ a r q k. search rules)

pub returns-clause-small : goal.returns-clause-small
returns-clause-small c = All-permutation IsSmall _ _ c.sort_unstable_by_key.ensures.permutation c.requires

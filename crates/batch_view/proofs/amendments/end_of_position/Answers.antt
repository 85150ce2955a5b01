use Rattle.std.proofs.Common.{◌≡◌, rules, leb, subst}
use Rattle.std.specs.List.Sorted.{IsPartitionPoint}
use Rattle.std.specs.Prelude.{true, false}
use Rattle.std.proofs.lemmas.List.Sorted.{IsPartitionPoint-from_clause, IsPartitionedBy-leb}
use Rattle.batch_view.specs.Inner.Amended.{rank}
use Rattle.batch_view.proofs.amendments.end_of_position.Goals as goal

pub returns-clause-point : goal.returns-clause-point
returns-clause-point c =
    let xs = c.args.sorted.now in
    let parted = IsPartitionedBy-leb rank xs c.rank-top.result c.requires in
    subst (λ t. IsPartitionPoint (λ y. leb (rank y) t ≡ true) (λ y. leb (rank y) t ≡ false) xs c.partition_point.result) c.rank-top.ensures
    (IsPartitionPoint-from_clause (λ p. leb (rank p) c.rank-top.result) _ _ c.partition_point.ensures.partitioned parted (λ a r q k. search rules))

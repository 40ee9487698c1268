use Rattle.std.proofs.Common.{leb, leb-true, arith, rules}
use Rattle.std.proofs.lemmas.Bool.{leb-false}
use Rattle.std.proofs.lemmas.List.Sorted.{IsPartitionPoint-from_clause, IsPartitionedBy-leb}
use Rattle.spqr_tree.proofs.tree.bounds_up_to.Goals as goal

pub returns-clause-up_to : goal.returns-clause-up_to
returns-clause-up_to c =
    let parted = IsPartitionedBy-leb (λ x. x) _ c.args.place c.requires in
    let point = IsPartitionPoint-from_clause (λ x. leb x c.args.place) _ _ c.partition_point.ensures.partitioned parted (λ a r q k. search rules) in
    λ y l. leb-true _ _ (point.0 y 0 (omega arith) l)

pub returns-clause-above : goal.returns-clause-above
returns-clause-above c =
    let parted = IsPartitionedBy-leb (λ x. x) _ c.args.place c.requires in
    let point = IsPartitionPoint-from_clause (λ x. leb x c.args.place) _ _ c.partition_point.ensures.partitioned parted (λ a r q k. search rules) in
    λ y l b. leb-false _ _ (point.1 y 0 l b)

use Rattle.std.proofs.Common.{rules, arith, ltb}
use Rattle.std.proofs.lemmas.List.Sorted.{IsPartitionPoint-from_clause, IsPartitionedBy-ltb}
use Rattle.path_requirements.proofs.Searching.{find-at, Rise-non_decreasing}
use Rattle.path_requirements.proofs.matching.place_of.Goals as goal

pub returns-clause-found : goal.returns-clause-found
returns-clause-found c =
    let point = IsPartitionPoint-from_clause (λ e. ltb e.number c.args.number) c.args.exceptions.now c.partition_point.result c.partition_point.ensures.partitioned
    (IsPartitionedBy-ltb (λ e. e.number) c.args.exceptions.now c.args.number (Rise-non_decreasing c.args.exceptions.now c.requires)) (λ a r f called. search rules) in
    find-at c.args.exceptions.now c.args.number c.partition_point.result c.requires c.partition_point.ensures.bound
    (λ k d below. let less = point.0 k d (omega arith) below in grind arith)
    (λ k d above within. let most = point.1 k d above within in grind arith)

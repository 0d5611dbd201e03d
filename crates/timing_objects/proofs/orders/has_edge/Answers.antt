use Rattle.std.proofs.Common.{◌<◌, length, rules, arith, ltb}
use Rattle.std.proofs.lemmas.List.Sorted.{IsPartitionPoint-from_clause, IsPartitionedBy-ltb}
use Rattle.bud_syntax.specs.declared.edges.Edge.TheVariants.{Rise}
use Rattle.timing_objects.proofs.OrderSteps.{edges-rise, none-behind, at-index}
use Rattle.timing_objects.proofs.orders.has_edge.Goals as goal

pub returns-then-place-edges : goal.returns-then-place-edges
returns-then-place-edges c =
    let point = IsPartitionPoint-from_clause (λ x. ltb x.pin.0 c.args.pin.0) c.args.edges.now c.partition_point-place.result c.partition_point-place.ensures.partitioned
    (IsPartitionedBy-ltb (λ x. x.pin.0) c.args.edges.now c.args.pin.0 (edges-rise c.args.edges.now c.requires)) (λ a r f called. search rules) in
    none-behind (λ x. x.pin.0) c.args.edges.now c.args.pin.0 c.partition_point-place.result (λ k d below. let less = point.0 k d (omega arith) below in grind arith) c.if-place-edges.true

pub returns : goal.returns
returns c =
    let point = IsPartitionPoint-from_clause (λ x. ltb x.pin.0 c.args.pin.0) c.args.edges.now c.partition_point-place.result c.partition_point-place.ensures.partitioned
    (IsPartitionedBy-ltb (λ x. x.pin.0) c.args.edges.now c.args.pin.0 (edges-rise c.args.edges.now c.requires)) (λ a r f called. search rules) in
    let within : c.partition_point-place.result < length c.args.edges.now = grind (arith, c.partition_point-place.ensures.bound, c.if-place-edges.false) in
    at-index (λ x. x.pin.0) c.args.edges.now c.args.pin.0 c.partition_point-place.result (record { pin = record { 0 = 0 }; edge = Rise }) (edges-rise c.args.edges.now c.requires)
    (λ k d below. let less = point.0 k d (omega arith) below in grind arith) (λ k d above inside. let most = point.1 k d above inside in grind arith) within

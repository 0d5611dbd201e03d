use Rattle.std.proofs.Common.{rules, arith, [], ltb}
use Rattle.std.proofs.lemmas.List.Sorted.{IsPartitionPoint-from_clause, IsPartitionedBy-ltb}
use Rattle.bud_design.specs.Designs.{pin_at}
use Rattle.timing_objects.proofs.OrderSteps.{non_decreasing}
use Rattle.timing_objects.proofs.orders.start_of.Goals as goal

pub returns-clause-before : goal.returns-clause-before
returns-clause-before c = λ v below.
    let point = IsPartitionPoint-from_clause (λ p. ltb p.place c.args.place) c.args.pins.now c.partition_point.result c.partition_point.ensures.partitioned
    (IsPartitionedBy-ltb (λ p. p.place) c.args.pins.now c.args.place (non_decreasing (λ p. p.place) c.args.pins.now c.requires)) (λ a r f called. search rules) in
    let passes = point.0 v (pin_at [] 0) (omega arith) below in
    grind arith

pub returns-clause-behind : goal.returns-clause-behind
returns-clause-behind c = λ v low below.
    let point = IsPartitionPoint-from_clause (λ p. ltb p.place c.args.place) c.args.pins.now c.partition_point.result c.partition_point.ensures.partitioned
    (IsPartitionedBy-ltb (λ p. p.place) c.args.pins.now c.args.place (non_decreasing (λ p. p.place) c.args.pins.now c.requires)) (λ a r f called. search rules) in
    let fails = point.1 v (pin_at [] 0) low below in
    grind arith

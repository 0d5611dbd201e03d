use Rattle.std.proofs.Common.{rules, arith}
use Rattle.std.proofs.lemmas.List.Sorted.{IsPartitionPoint-from_clause}
use Rattle.bud_design.specs.Orders.{pins_before}
use Rattle.timing_graph.specs.declared.graphs.Arc.{Arc}
use Rattle.timing_graph.proofs.PlaceLaws.{partitioned}
use Rattle.timing_graph.proofs.graphs.place_of.Goals as goal

pub returns : goal.returns
returns c =
    let point = IsPartitionPoint-from_clause (λ (x : Arc). pins_before x.from.0 x.to.0 c.args.from.0 c.args.to.0) c.args.arcs.now c.partition_point.result c.partition_point.ensures.partitioned
    (partitioned c.args.arcs.now c.args.from.0 c.args.to.0 c.requires) (λ a r f called. search rules) in
    record { within = c.partition_point.ensures.bound; below = λ k d less. point.0 k d (omega arith) less; above = λ k d most inside. point.1 k d most inside }

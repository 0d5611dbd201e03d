use Rattle.std.proofs.Common.{◌≡◌, ◌++◌, drop}
use Rattle.design_layers.specs.Weights.{share_at, weighted_items}
use Rattle.design_layers.proofs.weights.weighted_list.Given as goal

abbrev pub invariant-loop-place : goal.invariant-loop-place
invariant-loop-place l =
    weighted_items (share_at l.flat l.graph.arcs l.clocks l.lines l.plain.classes) l.plain.items l.plain.problem.items
    ≡ l.list.items ++ weighted_items (share_at l.flat l.graph.arcs l.clocks l.lines l.plain.classes) (drop l.place l.plain.items) (drop l.place l.plain.problem.items)

use Rattle.std.proofs.Common.{◌≡◌, ◌++◌, drop, map}
use Rattle.design_layers.specs.Views.{arc_item}
use Rattle.design_layers.proofs.arc_items.arc_items.Given as goal

abbrev pub invariant-loop-number : goal.invariant-loop-number
invariant-loop-number l = map arc_item l.graph.arcs ≡ l.items.items ++ map arc_item (drop l.number l.graph.arcs)

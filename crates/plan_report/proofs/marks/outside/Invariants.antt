use Rattle.std.proofs.Common.{◌≡◌, ◌++◌, drop}
use Rattle.plan_report.specs.Weights.{outside}
use Rattle.plan_report.proofs.marks.outside.Given as goal

abbrev pub invariant-loop-item : goal.invariant-loop-item
invariant-loop-item l = outside l.flat l.graph.arcs l.items l.places ≡ l.marks.items ++ outside l.flat l.graph.arcs (drop l.item-index l.items) l.places

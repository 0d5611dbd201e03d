use Rattle.std.proofs.Common.{◌≡◌, ◌++◌, drop}
use Rattle.plan_report.specs.Weights.{inside}
use Rattle.plan_report.proofs.marks.inside.Given as goal

abbrev pub invariant-loop-item : goal.invariant-loop-item
invariant-loop-item l = inside l.flat l.graph.arcs l.items l.place ≡ l.marks.items ++ inside l.flat l.graph.arcs (drop l.item-index l.items) l.place

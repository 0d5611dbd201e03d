use Rattle.std.proofs.Common.{◌≡◌, drop}
use Rattle.std.specs.List.{list_any}
use Rattle.bud_design.specs.Arcs.{arc_at}
use Rattle.bud_design.specs.Designs.{is_inside}
use Rattle.plan_report.proofs.marks.lies_in_some.Given as goal

abbrev pub invariant-loop-place : goal.invariant-loop-place
invariant-loop-place l =
    list_any (λ p. is_inside l.flat.places p (arc_at l.graph.arcs l.item.arc.0).home) l.places
    ≡ list_any (λ p. is_inside l.flat.places p (arc_at l.graph.arcs l.item.arc.0).home) (drop l.place-index l.places)

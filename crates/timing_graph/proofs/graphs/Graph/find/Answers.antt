use Rattle.std.proofs.Common.{pos, get_or, ◌≡◌, arith, sym, ◌∙◌, ap, subst, refl, true}
use Rattle.std.proofs.lemmas.Grind.{common_steps}
use Rattle.bud_design.specs.Arcs.{arc_before, arc_between}
use Rattle.timing_graph.specs.declared.graphs.Arc.{Arc}
use Rattle.timing_graph.specs.GraphViews.{arc_of, AreRising, IsPlaceFor}
use Rattle.timing_graph.proofs.Mapped.{AllPairs-unmap}
use Rattle.timing_graph.proofs.PlaceLaws.{found-past, found-here}
use Rattle.timing_graph.proofs.graphs.Graph.find.Goals as goal
use Rattle.timing_graph.proofs.graphs.Graph.find.Goals.{After-as_slice, else-arc-from-via-then-arc-from+else-arc-to, else-arc-from-via-else-arc-from}

abbrev zero_arc : Arc
zero_arc = record { from = record { 0 = 0 }; to = record { 0 = 0 }; least = pos 0; home = 0 }

rising : (c : After-as_slice) → AreRising c.self.inside.arcs
rising c = AllPairs-unmap arc_of (λ x y. arc_before x y ≡ true) c.self.inside.arcs c.self.invariant.sound.arc_order

pub place_of-place-requires : goal.place_of-place-requires
place_of-place-requires c = subst AreRising (sym c.as_slice.ensures) (rising (goal.at.place_of-place-requires c).After-as_slice)

pub returns-then-place-len : goal.returns-then-place-len
returns-then-place-len c =
    let place : IsPlaceFor c.self.inside.arcs c.args.from.0 c.args.to.0 c.place_of-place.result = subst (λ xs. IsPlaceFor xs c.args.from.0 c.args.to.0 c.place_of-place.result) c.as_slice.ensures c.place_of-place.ensures in
    let here = found-past c.self.inside.arcs c.args.from.0 c.args.to.0 c.place_of-place.result (rising (goal.at.returns-then-place-len c).After-as_slice) place (c.if-place-len.true ∙ c.len.ensures) in
    grind (arith, common_steps)

pub returns-then-arc-to : goal.returns-then-arc-to
returns-then-arc-to c =
    let place : IsPlaceFor c.self.inside.arcs c.args.from.0 c.args.to.0 c.place_of-place.result = subst (λ xs. IsPlaceFor xs c.args.from.0 c.args.to.0 c.place_of-place.result) c.as_slice.ensures c.place_of-place.ensures in
    let here = found-here c.self.inside.arcs c.args.from.0 c.args.to.0 c.place_of-place.result (get_or c.as_slice-2.result.now c.place_of-place.result zero_arc) zero_arc (rising (goal.at.returns-then-arc-to c).After-as_slice) place
    (omega (arith, place.within, c.len.ensures)) (ap (λ xs. get_or xs c.place_of-place.result zero_arc) c.as_slice-2.ensures) in
    grind (arith, common_steps)

pub returns-else-arc-from : goal.returns-else-arc-from
returns-else-arc-from c =
    let place : IsPlaceFor c.self.inside.arcs c.args.from.0 c.args.to.0 c.place_of-place.result = subst (λ xs. IsPlaceFor xs c.args.from.0 c.args.to.0 c.place_of-place.result) c.as_slice.ensures c.place_of-place.ensures in
    let here = found-here c.self.inside.arcs c.args.from.0 c.args.to.0 c.place_of-place.result (get_or c.as_slice-2.result.now c.place_of-place.result zero_arc) zero_arc (rising (goal.at.returns-else-arc-from c).After-as_slice) place
    (omega (arith, place.within, c.len.ensures)) (ap (λ xs. get_or xs c.place_of-place.result zero_arc) c.as_slice-2.ensures) in
    elim c.else-arc-from.branch [
      | else-arc-from-via-then-arc-from+else-arc-to w ↦ grind (arith, common_steps)
      | else-arc-from-via-else-arc-from w ↦ grind (arith, common_steps)
    ]

use Rattle.std.proofs.Common.{rules, arith, pos, false, map, get_or, length, refl, ◌∙◌, ap, to_z-of_z, SFits, w64}
use Rattle.bud_design.specs.declared.designs.Wire.{Wire}
use Rattle.timing_graph.specs.GraphViews.{arc_of}
use Rattle.timing_graph.proofs.ArcLists.{wire_arcs-step}
use Rattle.timing_graph.proofs.gathering.put_wires.Goals as goal

pub loop-place-preserved : goal.loop-place-preserved
loop-place-preserved c =
    let fits : SFits w64 (get_or c.as_slice-delays.result.now c.loop-place.place (pos 0)) = search rules in
    wire_arcs-step c.args.timing.now _ (map arc_of c.loop-place.arcs.items) (map arc_of c.put_wire.new.arcs.items) c.args.wires.now c.args.timing.now.wires c.loop-place.place
    _ (record { from = record { 0 = 0 }; to = record { 0 = 0 }; home = 0 }) _ (pos 0) _ c.requires.one_each c.loop-place-test.true
    refl (to_z-of_z fits ∙ ap (λ zs. get_or zs c.loop-place.place (pos 0)) c.as_slice-delays.ensures)
    (c.requires.marks.tells _ (c.requires.within c.loop-place.place (record { from = record { 0 = 0 }; to = record { 0 = 0 }; home = 0 }) c.loop-place-test.true))
    c.loop-place.invariant c.in_ok-put_wire.ensures

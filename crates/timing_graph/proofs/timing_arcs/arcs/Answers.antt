use Rattle.std.proofs.Common.{rules, ◌<◌, length, map, All, ◌∙◌, sym, ap, subst, refl, arith}
use Rattle.std.proofs.lemmas.List.{length-map}
use Rattle.bud_design.specs.Arcs.{Graph, IsTopological}
use Rattle.bud_design.specs.TimingRules.{IsSoundGraph}
use Rattle.timing_graph.specs.declared.graphs.Arc.{Arc}
use Rattle.timing_graph.specs.GraphViews.{arc_of, IsSomeGraph}
use Rattle.timing_graph.specs.Orderings.{item_of, IsCycleFault, IsOrderAnswer}
use Rattle.timing_graph.proofs.ArcLists.{ends-within, AreArcs-sound}
use Rattle.timing_graph.proofs.OrderLaws.{IsArcsAnswer-fault}
use Rattle.timing_graph.proofs.timing_arcs.arcs.Goals as goal
use Rattle.timing_graph.proofs.timing_arcs.arcs.Goals.{After-from_vec}

pub order_of-requires-clause-within : goal.order_of-requires-clause-within
order_of-requires-clause-within c =
    subst (λ n. All (λ (a : Arc). (a.from.0 < n) × (a.to.0 < n)) c.deref.result.now) (sym c.pin_count.ensures.count)
    (subst (All (λ (a : Arc). (a.from.0 < length c.args.flat.now.pins) × (a.to.0 < length c.args.flat.now.pins))) (sym c.deref.ensures.value)
    (ends-within c.args.flat.now c.args.timing.now c.pin_count.ensures.kept.is_design c.requires.timing c.requires.leaves c.in-Ok.arcs.items c.in-Ok.ensures))

sound : (c : After-from_vec) → IsSoundGraph c.args.flat.now (record { arcs = map arc_of c.in-Ok.arcs.items; order = c.in-Ok-order_of.order })
sound c = record {
  arcs = AreArcs-sound c.args.flat.now c.args.timing.now c.pin_count.ensures.kept.is_design c.requires.timing c.requires.leaves (map arc_of c.in-Ok.arcs.items) c.in-Ok.ensures;
  arc_order = c.in-Ok.ensures.rising;
  order =
      subst (λ n. IsTopological n (map arc_of c.in-Ok.arcs.items) c.in-Ok-order_of.order) c.pin_count.ensures.count
      (subst (λ xs. IsTopological c.pin_count.result (map arc_of xs) c.in-Ok-order_of.order) c.deref.ensures.value c.in-Ok-order_of.ensures);
}

pub of-requires : goal.of-requires
of-requires c =
    subst (λ xs. IsSomeGraph (record { arcs = map arc_of xs; order = c.in-Ok-order_of.order })) (sym c.from_vec.ensures)
    (record {
      few = omega (arith, length-map c.in-Ok.arcs.items arc_of, c.if-len-gt-MOST.false);
      design = c.args.flat.now;
      sound = sound (goal.at.of-requires c).After-from_vec;
    })

pub returns-in-Ok-order_of-clause-sound : goal.returns-in-Ok-order_of-clause-sound
returns-in-Ok-order_of-clause-sound c =
    subst (IsSoundGraph c.args.flat.now) (sym (c.of.ensures ∙ ap (λ xs. record { arcs = map arc_of xs; order = c.in-Ok-order_of.order }) c.from_vec.ensures))
    (sound (goal.at.returns-in-Ok-order_of-clause-sound c).After-from_vec)

pub returns-in-Err-clause-answer : goal.returns-in-Err-clause-answer
returns-in-Err-clause-answer c =
    IsArcsAnswer-fault c.args.flat.now c.args.timing.now c.in-Ok.arcs.items c.in-Err.fault c.in-Ok.ensures
    (subst (λ xs. IsCycleFault (map item_of xs) c.in-Err.fault) c.deref.ensures.value c.in-Err.ensures)

use Rattle.std.proofs.Common.{rules, map, All, sym, ◌∙◌, ap, subst}
use Rattle.bud_base.specs.Orders.{IsWithinNodes, IsOrder}
use Rattle.bud_design.specs.Arcs.{IsTopological}
use Rattle.timing_graph.specs.GraphViews.{arc_of}
use Rattle.timing_graph.specs.Orderings.{item_of, pin_of}
use Rattle.timing_graph.proofs.OrderLaws.{items-within, IsTopological-from_order}
use Rattle.timing_graph.proofs.ordering.order_of.Goals as goal

pub find-requires-clause-within : goal.find-requires-clause-within
find-requires-clause-within c = subst (All (IsWithinNodes c.args.pins)) (sym (c.deref.ensures.value ∙ c.in-Ok.ensures)) (items-within c.args.pins c.args.arcs.now c.requires.within)

pub cycle_of-requires-clause-within : goal.cycle_of-requires-clause-within
cycle_of-requires-clause-within c = subst (All (IsWithinNodes c.args.pins)) (sym (c.deref-then-not-find.ensures.value ∙ c.in-Ok.ensures)) (items-within c.args.pins c.args.arcs.now c.requires.within)

pub returns-in-Ok-pins_of : goal.returns-in-Ok-pins_of
returns-in-Ok-pins_of c =
    let is : IsOrder c.args.pins (map item_of c.args.arcs.now) c.find.new.self.order
    = subst (λ is. IsOrder c.args.pins is c.find.new.self.order) (c.deref.ensures.value ∙ c.in-Ok.ensures) (c.find.ensures.order (search rules)) in
    subst (IsTopological c.args.pins (map arc_of c.args.arcs.now)) (sym (c.in-Ok-pins_of.ensures ∙ ap (map pin_of) c.nodes.ensures))
    (IsTopological-from_order c.args.pins c.args.arcs.now c.find.new.self.order is)

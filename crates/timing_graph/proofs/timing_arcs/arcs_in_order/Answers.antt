use Rattle.std.proofs.Common.{rules, ◌∙◌, ap, ◌++◌}
use Rattle.timing_graph.specs.Graphs.{wire_arcs}
use Rattle.timing_graph.specs.Gathering.{arcs_of_pairs}
use Rattle.timing_graph.proofs.ArcLists.{AreArcs-from_sorted}
use Rattle.timing_graph.proofs.timing_arcs.arcs_in_order.Goals as goal

pub returns : goal.returns
returns c =
    AreArcs-from_sorted c.args.flat.now c.args.timing.now c.pins.ensures.kept.is_design c.requires.timing c.requires.leaves c.in_ok-gathered.gathered.items c.in_ok-sorted.sorted.items c.pins.ensures.kept.few_pins
    (c.in_ok-gathered.ensures ∙ (ap (λ ws. wire_arcs c.args.timing.now ws c.args.timing.now.wires ++ arcs_of_pairs c.pins.result.now c.args.timing.now.pairs) c.wires.ensures.lent
    ∙ ap (λ ps. wire_arcs c.args.timing.now c.args.flat.now.wires c.args.timing.now.wires ++ arcs_of_pairs ps c.args.timing.now.pairs) c.pins.ensures.lent))
    c.in_ok-sorted.ensures.permutation c.in_ok-sorted.ensures.sorted

use Rattle.std.proofs.Common.{rules, ◌<◌, length, ◌≡◌, pos, map, get_or, arith, sym, ◌∙◌, ap, subst, refl, true}
use Rattle.std.proofs.lemmas.List.{length-map}
use Rattle.bud_design.specs.Arcs.{Graph}
use Rattle.bud_design.specs.TimingRules.{IsSoundGraph}
use Rattle.timing_graph.specs.GraphViews.{arc_of, IsSomeGraph}
use Rattle.timing_graph.specs.Graphs.{with_least}
use Rattle.timing_graph.proofs.Leasts.{IsSoundGraph-with, IsSomeGraph-with, map-with_least}
use Rattle.timing_graph.proofs.graphs.Graph.set_least.Goals as goal
use Rattle.timing_graph.proofs.graphs.Graph.set_least.Goals.{After-set}

within : (c : After-set) → c.args.arc.0 < length (map arc_of c.self.inside.arcs)
within c = subst (λ (g : Graph). c.args.arc.0 < length g.arcs) (sym c.self.view_is) c.requires.arc

arcs_are : (c : After-set) → map arc_of c.set.new.self ≡ with_least (map arc_of c.self.inside.arcs) c.args.arc.0 c.args.least
arcs_are c =
    ap (map arc_of) c.set.ensures
    ∙ map-with_least c.self.inside.arcs c.args.arc.0 c.args.least (get_or c.as_slice.result.now c.args.arc.0 (record { from = record { 0 = 0 }; to = record { 0 = 0 }; least = pos 0; home = 0 })) _
    (record { from = record { 0 = 0 }; to = record { 0 = 0 }; least = pos 0; home = 0 }) (omega (arith, within c, length-map c.self.inside.arcs arc_of)) (ap (λ xs. get_or xs c.args.arc.0 (record { from = record { 0 = 0 }; to = record { 0 = 0 }; least = pos 0; home = 0 })) c.as_slice.ensures) (search rules)

pub invariant_of-self : goal.invariant_of-self
invariant_of-self c =
    subst (λ xs. IsSomeGraph (record { arcs = xs; order = c.self.inside.order })) (sym (arcs_are (goal.at.invariant_of-self c).After-set))
    (IsSomeGraph-with (map arc_of c.self.inside.arcs) c.args.arc.0 c.args.least (within (goal.at.invariant_of-self c).After-set) c.self.inside.order c.requires.delay c.self.invariant)

pub returns-clause-arcs : goal.returns-clause-arcs
returns-clause-arcs c = arcs_are (goal.at.returns-clause-arcs c).After-set ∙ ap (λ (g : Graph). with_least g.arcs c.args.arc.0 c.args.least) c.self.view_is

pub returns-clause-sound : goal.returns-clause-sound
returns-clause-sound c = λ d sound.
    subst (λ xs. IsSoundGraph d (record { arcs = xs; order = c.self.inside.order })) (sym (arcs_are (goal.at.returns-clause-sound c).After-set))
    (IsSoundGraph-with (map arc_of c.self.inside.arcs) c.args.arc.0 c.args.least (within (goal.at.returns-clause-sound c).After-set) d c.self.inside.order c.requires.delay (subst (IsSoundGraph d) (sym c.self.view_is) sound))

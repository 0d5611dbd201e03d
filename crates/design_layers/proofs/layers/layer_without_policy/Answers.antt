use Rattle.std.proofs.Common.{length}
use Rattle.bud_design.specs.Correspondences.{Correspond}
use Rattle.bud_design.specs.TimingRules.{IsSoundLayered}
use Rattle.bud_design.specs.declared.layers.Layered.{Layered}
use Rattle.design_layers.specs.Views.{whole_view, no_policy, HasSlackOf}
use Rattle.design_layers.proofs.Layerings as layerings
use Rattle.design_layers.proofs.layers.layer_without_policy.Goals as goal

pub checked-requires : goal.checked-requires
checked-requires c =
    layerings.IsListable-answered c.args.flat.now c.args.graph.now c.args.all.now c.requires.graph c.requires.constraints no_policy c.in_ok-layered.layered c.in_ok-layered.ensures

pub returns-clause-answer : goal.returns-clause-answer
returns-clause-answer c =
    layerings.IsLayerAnswer-checked c.args.flat.now c.args.graph.now c.args.all.now c.requires.graph c.requires.constraints no_policy c.in_ok-layered.layered c.in_ok-layered.ensures c.checked.result
    c.checked.ensures

pub returns-clause-sound : goal.returns-clause-sound
returns-clause-sound c =
    layerings.IfOk-checked c.args.flat.now c.args.graph.now c.args.all.now c.requires.graph c.requires.constraints no_policy c.in_ok-layered.layered
    (IsSoundLayered (length c.args.flat.now.pins) (length c.args.graph.now.arcs))
    (λ problem. layerings.IsSoundLayered-of c.args.flat.now c.args.graph.now c.args.all.now c.requires.graph c.requires.constraints no_policy c.in_ok-layered.layered c.in_ok-layered.ensures.2 problem)
    c.checked.result c.checked.ensures

pub returns-clause-paths : goal.returns-clause-paths
returns-clause-paths c =
    layerings.IfOk-checked c.args.flat.now c.args.graph.now c.args.all.now c.requires.graph c.requires.constraints no_policy c.in_ok-layered.layered
    (Correspond (whole_view c.args.flat.now c.args.graph.now c.args.all.now))
    (λ problem. layerings.Correspond-of c.args.flat.now c.args.graph.now c.args.all.now c.requires.graph c.requires.constraints no_policy c.in_ok-layered.layered c.in_ok-layered.ensures.2)
    c.checked.result c.checked.ensures

pub returns-clause-slack : goal.returns-clause-slack
returns-clause-slack c =
    layerings.IfOk-checked c.args.flat.now c.args.graph.now c.args.all.now c.requires.graph c.requires.constraints no_policy c.in_ok-layered.layered
    (λ (layered : Layered). HasSlackOf (whole_view c.args.flat.now c.args.graph.now c.args.all.now) layered.problem)
    (λ problem. layerings.HasSlackOf-of c.args.flat.now c.args.graph.now c.args.all.now c.requires.graph c.requires.constraints no_policy c.in_ok-layered.layered c.in_ok-layered.ensures.2)
    c.checked.result c.checked.ensures

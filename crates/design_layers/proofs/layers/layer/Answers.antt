use Rattle.std.proofs.Common.{length, List, sym, subst}
use Rattle.bud_design.specs.Correspondences.{Correspond}
use Rattle.bud_design.specs.TimingRules.{IsSoundLayered}
use Rattle.bud_design.specs.declared.clocks.Clock.{Clock}
use Rattle.bud_design.specs.declared.layers.Layered.{Layered}
use Rattle.design_layers.specs.Views.{whole_view, HasSlackOf}
use Rattle.design_layers.specs.Weights.{CanWeigh}
use Rattle.design_layers.proofs.Layerings as layerings
use Rattle.design_layers.proofs.WeightLaws.{CanWeigh-of, IsLayerAnswer-made}
use Rattle.design_layers.proofs.layers.layer.Goals as goal

pub under_policy-requires-clause-layered : goal.under_policy-requires-clause-layered
under_policy-requires-clause-layered c =
    subst (λ (cs : List Clock). CanWeigh c.args.flat.now c.args.graph.now.arcs cs c.in_ok-plain.plain) (sym c.as_slice-clocks.ensures)
    (CanWeigh-of c.args.flat.now c.args.graph.now c.args.all.now c.requires.graph c.requires.constraints c.in_ok-plain.plain c.in_ok-plain.ensures.2)

pub checked-requires : goal.checked-requires
checked-requires c =
    let answer = IsLayerAnswer-made c.args.flat.now c.args.graph.now c.args.all.now c.args.policy.now c.in_ok-plain.plain c.as_slice-clocks.result.now c.as_slice-lines.result.now c.in-Ok.layered
    c.as_slice-clocks.ensures c.as_slice-lines.ensures c.in_ok-numbers.ensures.accepted c.in_ok-plain.ensures c.in-Ok.ensures in
    layerings.IsListable-answered c.args.flat.now c.args.graph.now c.args.all.now c.requires.graph c.requires.constraints c.args.policy.now c.in-Ok.layered answer

pub returns-clause-answer : goal.returns-clause-answer
returns-clause-answer c =
    let answer = IsLayerAnswer-made c.args.flat.now c.args.graph.now c.args.all.now c.args.policy.now c.in_ok-plain.plain c.as_slice-clocks.result.now c.as_slice-lines.result.now c.in-Ok.layered
    c.as_slice-clocks.ensures c.as_slice-lines.ensures c.in_ok-numbers.ensures.accepted c.in_ok-plain.ensures c.in-Ok.ensures in
    layerings.IsLayerAnswer-checked c.args.flat.now c.args.graph.now c.args.all.now c.requires.graph c.requires.constraints c.args.policy.now c.in-Ok.layered answer c.checked.result c.checked.ensures

pub returns-clause-sound : goal.returns-clause-sound
returns-clause-sound c =
    let answer = IsLayerAnswer-made c.args.flat.now c.args.graph.now c.args.all.now c.args.policy.now c.in_ok-plain.plain c.as_slice-clocks.result.now c.as_slice-lines.result.now c.in-Ok.layered
    c.as_slice-clocks.ensures c.as_slice-lines.ensures c.in_ok-numbers.ensures.accepted c.in_ok-plain.ensures c.in-Ok.ensures in
    layerings.IfOk-checked c.args.flat.now c.args.graph.now c.args.all.now c.requires.graph c.requires.constraints c.args.policy.now c.in-Ok.layered
    (IsSoundLayered (length c.args.flat.now.pins) (length c.args.graph.now.arcs))
    (λ problem. layerings.IsSoundLayered-of c.args.flat.now c.args.graph.now c.args.all.now c.requires.graph c.requires.constraints c.args.policy.now c.in-Ok.layered answer.2 problem) c.checked.result
    c.checked.ensures

pub returns-clause-paths : goal.returns-clause-paths
returns-clause-paths c =
    let answer = IsLayerAnswer-made c.args.flat.now c.args.graph.now c.args.all.now c.args.policy.now c.in_ok-plain.plain c.as_slice-clocks.result.now c.as_slice-lines.result.now c.in-Ok.layered
    c.as_slice-clocks.ensures c.as_slice-lines.ensures c.in_ok-numbers.ensures.accepted c.in_ok-plain.ensures c.in-Ok.ensures in
    layerings.IfOk-checked c.args.flat.now c.args.graph.now c.args.all.now c.requires.graph c.requires.constraints c.args.policy.now c.in-Ok.layered
    (Correspond (whole_view c.args.flat.now c.args.graph.now c.args.all.now))
    (λ problem. layerings.Correspond-of c.args.flat.now c.args.graph.now c.args.all.now c.requires.graph c.requires.constraints c.args.policy.now c.in-Ok.layered answer.2) c.checked.result
    c.checked.ensures

pub returns-clause-slack : goal.returns-clause-slack
returns-clause-slack c =
    let answer = IsLayerAnswer-made c.args.flat.now c.args.graph.now c.args.all.now c.args.policy.now c.in_ok-plain.plain c.as_slice-clocks.result.now c.as_slice-lines.result.now c.in-Ok.layered
    c.as_slice-clocks.ensures c.as_slice-lines.ensures c.in_ok-numbers.ensures.accepted c.in_ok-plain.ensures c.in-Ok.ensures in
    layerings.IfOk-checked c.args.flat.now c.args.graph.now c.args.all.now c.requires.graph c.requires.constraints c.args.policy.now c.in-Ok.layered
    (λ (layered : Layered). HasSlackOf (whole_view c.args.flat.now c.args.graph.now c.args.all.now) layered.problem)
    (λ problem. layerings.HasSlackOf-of c.args.flat.now c.args.graph.now c.args.all.now c.requires.graph c.requires.constraints c.args.policy.now c.in-Ok.layered answer.2) c.checked.result
    c.checked.ensures

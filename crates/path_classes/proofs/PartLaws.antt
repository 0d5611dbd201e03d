-- The parts are the layering, whose paths are the constrained paths.
use Rattle.std.proofs.Common.{◌≡◌, ℕ, List, [], refl, sym, subst}
use Rattle.bud_base.specs.declared.problems.Item.{Item}
use Rattle.bud_design.specs.ConstraintRules.{AreSoundConstraints}
use Rattle.bud_design.specs.Correspondences.{Correspond}
use Rattle.bud_design.specs.Layers.{IsLayering}
use Rattle.bud_design.specs.Policies.{version_of}
use Rattle.bud_design.specs.TimingPaths.{View}
use Rattle.bud_design.specs.declared.layers.Layered.{Layered}
use Rattle.bud_design.specs.declared.policies.Policy.{Policy}
use Rattle.layer_theory.proofs.LayerPaths.{Correspond-from_layering}
use Rattle.state_laws.specs.Views.{HasArcs}
use Rattle.path_classes.specs.Layering.{HasParts, layered_of}
use Rattle.path_classes.proofs.Assembly.{IsLayering-of_parts}

pub IsLayering-from_parts : (w : View) (policy : Policy) (arcs : List Item) (layered : Layered) (pins : ℕ) → AreSoundConstraints pins w.all → HasArcs w arcs → policy.lines ≡ [] → version_of policy ≡ 1
    → HasParts arcs w.all 1 layered → IsLayering w policy layered
IsLayering-from_parts w policy arcs layered pins sound has_arcs none version has =
    subst (IsLayering w policy) (sym has.is)
    (subst (λ v. IsLayering w policy (layered_of w.all v has.parts)) version (IsLayering-of_parts w policy none arcs has_arcs sound.numbers sound.apart has.parts has.are))

pub Correspond-from_parts : (w : View) (arcs : List Item) (layered : Layered) (pins : ℕ) → AreSoundConstraints pins w.all → HasArcs w arcs → HasParts arcs w.all 1 layered → Correspond w layered
Correspond-from_parts w arcs layered pins sound has_arcs has =
    let policy : Policy = record { version = 1; lines = [] } in
    Correspond-from_layering w policy layered (IsLayering-from_parts w policy arcs layered pins sound has_arcs refl refl has) sound.numbers sound.apart

use Rattle.std.proofs.Common.{◌<◌, ℕ, List, length, sym, subst}
use Rattle.std.specs.Prelude.{All, Contains}
use Rattle.bud_design.specs.declared.designs.Place.{Place}
use Rattle.bud_design.specs.declared.designs.Wire.{Wire}
use Rattle.bud_design.specs.Designs.{place_at}
use Rattle.bud_design.specs.DesignRules.{HasParent}
use Rattle.bud_design.specs.Lists.{Lists}
use Rattle.elaborations.specs.Elaborations.{ends_before}
use Rattle.elaborations.proofs.Siblings.{tree-parents}
use Rattle.elaborations.proofs.Trees.{elaborated_tree}
use Rattle.design_wires.specs.Gathering.{JoinPins, gathered, wires_of}
use Rattle.design_wires.specs.Sorting.{EndApart}
use Rattle.hierarchy.specs.Walking.{built_of}
use Rattle.hierarchy.proofs.FlatLaws.{carry, in-places, kinds-known, gathered-joined, gathered-apart, all-gathered}
use Rattle.hierarchy.proofs.elaboration.joined.Goals as goal

pub design_wires-requires-clause-parents : goal.design_wires-requires-clause-parents
design_wires-requires-clause-parents c =
    let w = c.args.walk.now in
    let tree = elaborated_tree c.args.library.now.modules.now c.requires.built.top (built_of w) c.requires.built.built in
    subst (λ (ps : List Place). (p : ℕ) → p < length ps → HasParent p (place_at ps p).parent) (sym c.as_slice-places.ensures.value) (tree-parents c.args.library.now.modules.now w.places.items w.pins.items tree)

pub design_wires-requires-clause-in_places : goal.design_wires-requires-clause-in_places
design_wires-requires-clause-in_places c =
    let w = c.args.walk.now in
    let tree = elaborated_tree c.args.library.now.modules.now c.requires.built.top (built_of w) c.requires.built.built in
    carry (λ ps us ks ws. All (λ v. v.place < length ps) us) c.as_slice-places.result.now w.places.items c.as_slice-pins.result.now w.pins.items c.as_slice-kinds.result.now w.kinds.items c.as_slice-locals.result.now w.survey.wires.items
    c.as_slice-places.ensures.value c.as_slice-pins.ensures.value c.as_slice-kinds.ensures.value c.as_slice-locals.ensures.value (in-places c.args.library.now.modules.now w.places.items w.pins.items tree)

pub design_wires-requires-clause-known : goal.design_wires-requires-clause-known
design_wires-requires-clause-known c =
    let w = c.args.walk.now in
    carry (λ ps us ks ws. All (λ k. k < length ws) ks) c.as_slice-places.result.now w.places.items c.as_slice-pins.result.now w.pins.items c.as_slice-kinds.result.now w.kinds.items c.as_slice-locals.result.now w.survey.wires.items
    c.as_slice-places.ensures.value c.as_slice-pins.ensures.value c.as_slice-kinds.ensures.value c.as_slice-locals.ensures.value
    (kinds-known c.args.library.now.modules.now w.places.items w.kinds.items w.survey.known.items w.survey.wires.items c.requires.walk.kinds c.requires.walk.survey.wires)

pub design_wires-requires-clause-joined : goal.design_wires-requires-clause-joined
design_wires-requires-clause-joined c =
    let w = c.args.walk.now in
    let tree = elaborated_tree c.args.library.now.modules.now c.requires.built.top (built_of w) c.requires.built.built in
    carry (λ ps us ks ws. JoinPins ps us (wires_of ws ks)) c.as_slice-places.result.now w.places.items c.as_slice-pins.result.now w.pins.items c.as_slice-kinds.result.now w.kinds.items c.as_slice-locals.result.now w.survey.wires.items
    c.as_slice-places.ensures.value c.as_slice-pins.ensures.value c.as_slice-kinds.ensures.value c.as_slice-locals.ensures.value
    (gathered-joined c.args.library.now.modules.now w.places.items w.kinds.items w.survey.known.items w.survey.wires.items c.requires.walk.kinds c.requires.walk.survey.wires w.pins.items tree)

pub design_wires-requires-clause-apart : goal.design_wires-requires-clause-apart
design_wires-requires-clause-apart c =
    let w = c.args.walk.now in
    let tree = elaborated_tree c.args.library.now.modules.now c.requires.built.top (built_of w) c.requires.built.built in
    carry (λ ps us ks ws. EndApart (gathered ps us (wires_of ws ks))) c.as_slice-places.result.now w.places.items c.as_slice-pins.result.now w.pins.items c.as_slice-kinds.result.now w.kinds.items c.as_slice-locals.result.now w.survey.wires.items
    c.as_slice-places.ensures.value c.as_slice-pins.ensures.value c.as_slice-kinds.ensures.value c.as_slice-locals.ensures.value
    (gathered-apart c.args.library.now.modules.now w.places.items w.kinds.items w.survey.known.items w.survey.wires.items c.requires.walk.kinds c.requires.walk.survey.wires w.pins.items tree)

pub returns-in-Ok-clause-wires : goal.returns-in-Ok-clause-wires
returns-in-Ok-clause-wires c =
    let w = c.args.walk.now in
    let listed = carry (λ ps us ks ws. Lists ends_before (Contains (gathered c.as_slice-places.result.now c.as_slice-pins.result.now (wires_of c.as_slice-locals.result.now c.as_slice-kinds.result.now))) c.in-Ok.wires → Lists ends_before (Contains (gathered ps us (wires_of ws ks))) c.in-Ok.wires)
    w.places.items c.as_slice-places.result.now w.pins.items c.as_slice-pins.result.now w.kinds.items c.as_slice-kinds.result.now w.survey.wires.items c.as_slice-locals.result.now
    (sym c.as_slice-places.ensures.value) (sym c.as_slice-pins.ensures.value) (sym c.as_slice-kinds.ensures.value) (sym c.as_slice-locals.ensures.value) (λ is. is) c.in-Ok.ensures in
    subst (λ (all : List Wire). Lists ends_before (Contains all) c.in-Ok.wires)
    (sym (all-gathered c.args.library.now.modules.now w.places.items w.kinds.items w.survey.known.items w.survey.wires.items c.requires.walk.kinds c.requires.walk.survey.wires w.pins.items)) listed

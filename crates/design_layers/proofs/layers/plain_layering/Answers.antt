use Rattle.std.proofs.Common.{Err, List, length, map, refl, sym, ◌∙◌, ap, subst, arith}
use Rattle.std.proofs.lemmas.Result.{err_from_is_err_and}
use Rattle.bud_base.specs.declared.problems.Item.{Item}
use Rattle.path_classes.specs.Layering.{HasNoRing, HasParts}
use Rattle.path_states.specs.Exploring.{PinsBelow, IsExplored}
use Rattle.path_states.specs.Tables.{table_of}
use Rattle.design_layers.specs.GroupedStates.{IsStatesAnswer}
use Rattle.design_layers.specs.Views.{arc_item}
use Rattle.design_layers.proofs.ArcItems.{PinsBelow-whole, HasNoRing-whole}
use Rattle.design_layers.proofs.Layerings.{IsLayerAnswer-refused, IsLayerAnswer-many_items, IsLayerAnswer-layered}
use Rattle.design_layers.proofs.layers.plain_layering.Goals as goal

pub states_within_limit-requires-clause-small : goal.states_within_limit-requires-clause-small
states_within_limit-requires-clause-small c = omega (arith, c.in-Ok.ensures.few, ap (λ (xs : List Item). length xs) c.deref.ensures.value)

pub states_within_limit-requires-clause-pins : goal.states_within_limit-requires-clause-pins
states_within_limit-requires-clause-pins c =
    subst (λ xs. PinsBelow c.pin_count-pins.result xs c.args.all.now) (sym (c.deref.ensures.value ∙ c.in-Ok.ensures.arcs))
    (subst (λ n. PinsBelow n (map arc_item c.args.graph.now.arcs) c.args.all.now) (sym c.pin_count-pins.ensures.count)
    (PinsBelow-whole c.args.flat.now c.args.graph.now c.args.all.now c.pin_count-pins.ensures.kept.is_design c.requires.graph c.requires.constraints))

pub returns-in_err-table : goal.returns-in_err-table
returns-in_err-table c =
    let given = err_from_is_err_and c.from_residual.result c.from_residual.ensures.1 in
    rw (given.1, given.2)
    (IsLayerAnswer-refused c.args.flat.now c.args.graph.now c.args.all.now c.pin_count-pins.ensures.kept.is_design c.requires.graph c.requires.constraints c.in_err-table.field-0.0
    (subst (λ xs. IsStatesAnswer xs c.args.all.now (Err c.in_err-table.field-0.0)) (c.deref.ensures.value ∙ c.in-Ok.ensures.arcs) c.in_err-table.ensures))

pub layer_arcs-requires-clause-pins : goal.layer_arcs-requires-clause-pins
layer_arcs-requires-clause-pins c =
    subst (λ xs. PinsBelow c.pin_count-pins.result xs c.args.all.now) (sym (c.deref-2.ensures.value ∙ c.in-Ok.ensures.arcs))
    (subst (λ n. PinsBelow n (map arc_item c.args.graph.now.arcs) c.args.all.now) (sym c.pin_count-pins.ensures.count)
    (PinsBelow-whole c.args.flat.now c.args.graph.now c.args.all.now c.pin_count-pins.ensures.kept.is_design c.requires.graph c.requires.constraints))

pub layer_arcs-requires-clause-acyclic : goal.layer_arcs-requires-clause-acyclic
layer_arcs-requires-clause-acyclic c =
    subst HasNoRing (sym (c.deref-2.ensures.value ∙ c.in-Ok.ensures.arcs))
    (HasNoRing-whole c.args.flat.now c.args.graph.now c.args.all.now c.pin_count-pins.ensures.kept.is_design c.requires.graph)

pub returns-then-len-gt-MOST_ITEMS : goal.returns-then-len-gt-MOST_ITEMS
returns-then-len-gt-MOST_ITEMS c =
    let states = subst (λ xs. IsExplored xs c.args.all.now (table_of c.in_ok-table.table)) (c.deref.ensures.value ∙ c.in-Ok.ensures.arcs) c.in_ok-table.ensures.0 in
    let parts = subst (λ xs. HasParts xs c.args.all.now 1 c.in-Ok-layer_arcs.layered) (c.deref-2.ensures.value ∙ c.in-Ok.ensures.arcs) c.in-Ok-layer_arcs.ensures in
    IsLayerAnswer-many_items c.args.flat.now c.args.graph.now c.args.all.now c.pin_count-pins.ensures.kept.is_design c.requires.graph c.requires.constraints (table_of c.in_ok-table.table) states
    c.in_ok-table.ensures.1 c.in-Ok-layer_arcs.layered parts (omega (arith, c.len-2.ensures, c.if-len-gt-MOST_ITEMS.true)) 4194305 refl

pub returns : goal.returns
returns c =
    let states = subst (λ xs. IsExplored xs c.args.all.now (table_of c.in_ok-table.table)) (c.deref.ensures.value ∙ c.in-Ok.ensures.arcs) c.in_ok-table.ensures.0 in
    let parts = subst (λ xs. HasParts xs c.args.all.now 1 c.in-Ok-layer_arcs.layered) (c.deref-2.ensures.value ∙ c.in-Ok.ensures.arcs) c.in-Ok-layer_arcs.ensures in
    IsLayerAnswer-layered c.args.flat.now c.args.graph.now c.args.all.now c.pin_count-pins.ensures.kept.is_design c.requires.graph c.requires.constraints (table_of c.in_ok-table.table) states
    c.in_ok-table.ensures.1 c.in-Ok-layer_arcs.layered parts (omega (arith, c.len-2.ensures, c.if-len-gt-MOST_ITEMS.false))

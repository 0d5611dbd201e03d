use Rattle.std.proofs.Common.{◌≡◌, ◌<◌, ◌+◌, ◌++◌, [], ◌∷◌, List, length, None, Some, sym, ◌∙◌, ap, subst, arith, rules, to_z, of_z, w64}
use Rattle.std.proofs.lemmas.Int.{ints}
use Rattle.bud_base.specs.declared.problems.End.{End}
use Rattle.bud_design.specs.declared.layers.Class.{Class}
use Rattle.path_states.specs.Tables.{table_of, class_in}
use Rattle.path_states.specs.declared.tables.State.{State}
use Rattle.path_classes.specs.Placing.{AreStateEnds}
use Rattle.path_classes.proofs.EndSteps.{AreStateEnds-skip, AreStateEnds-more, end-behind}
use Rattle.path_classes.proofs.TableReads.{read-class, read-asks}
use Rattle.path_classes.proofs.ends.state_ends.Goals as goal

pub least_ask-ask-requires-clause-launch_clock : goal.least_ask-ask-requires-clause-launch_clock
least_ask-ask-requires-clause-launch_clock c =
    let t = table_of c.args.table.now in
    let below : c.loop-place.place < length c.args.table.now.states.keys = omega (arith, ap (λ (xs : List State). length xs) c.as_slice-states.ensures.keys) in
    let k = read-class t c.as_slice-kinds.result.now c.as_slice-states.result.now c.loop-place.place c.index-kinds-state.result c.as_slice-kinds.ensures c.as_slice-states.ensures.keys
    c.requires.lists below c.index-kinds-state.is in
    omega (arith, ap (λ (j : Class). j.clock) k, c.requires.clocks c.loop-place.place below)

pub loop-place-preserved-in_default : goal.loop-place-preserved-in_default
loop-place-preserved-in_default c =
    let t = table_of c.args.table.now in
    let below : c.loop-place.place < length c.args.table.now.states.keys = omega (arith, ap (λ (xs : List State). length xs) c.as_slice-states.ensures.keys) in
    let k = read-class t c.as_slice-kinds.result.now c.as_slice-states.result.now c.loop-place.place c.index-kinds-state.result c.as_slice-kinds.ensures c.as_slice-states.ensures.keys
    c.requires.lists below c.index-kinds-state.is in
    AreStateEnds-skip c.args.all.now t c.loop-place.place c.loop-place.ends.items
    (read-asks c.args.all.now t c.as_slice-states.result.now c.loop-place.place c.index-kinds-state.result c.least_ask-ask.result None c.in_default.is c.least_ask-ask.ensures
    c.as_slice-states.ensures.keys k) c.loop-place.invariant

pub loop-place-preserved : goal.loop-place-preserved
loop-place-preserved c =
    let t = table_of c.args.table.now in
    let below : c.loop-place.place < length c.args.table.now.states.keys = omega (arith, ap (λ (xs : List State). length xs) c.as_slice-states.ensures.keys) in
    let k = read-class t c.as_slice-kinds.result.now c.as_slice-states.result.now c.loop-place.place c.index-kinds-state.result c.as_slice-kinds.ensures c.as_slice-states.ensures.keys
    c.requires.lists below c.index-kinds-state.is in
    let asks = read-asks c.args.all.now t c.as_slice-states.result.now c.loop-place.place c.index-kinds-state.result c.least_ask-ask.result (Some c.in-Some.require) c.in-Some.is
    c.least_ask-ask.ensures c.as_slice-states.ensures.keys k in
    let v : to_z w64 (of_z w64 c.in-Some.require) ≡ c.in-Some.require = omega (arith, ints) in
    let more = AreStateEnds-more c.args.all.now t c.loop-place.place c.loop-place.ends.items c.in-Some.require asks c.loop-place.invariant in
    subst (AreStateEnds c.args.all.now t (c.loop-place.place + 1))
    (sym (c.in_ok-push.ensures.items ∙ end-behind c.loop-place.ends.items c.in-Ok.number c.loop-place.place (to_z w64 (of_z w64 c.in-Some.require)) c.in-Some.require c.in-Ok.ensures.1 v)) more

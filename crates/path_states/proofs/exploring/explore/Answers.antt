use Rattle.std.proofs.Common.{◌≡◌, suc, ◌+◌, List, [], ◌∷◌, length, sym, ap, subst, ◌∙◌, append_assoc, append-nil, length-append, arith}
use Rattle.std.proofs.lemmas.List.{length-map, nil_from_length}
use Rattle.std.specs.Vec.Iter.{into_iter_items}
use Rattle.bud_design.specs.declared.clocks.Launch.{Launch}
use Rattle.bud_design.specs.declared.layers.Class.{Class}
use Rattle.bud_design.specs.Exceptions.{class_of}
use Rattle.path_states.specs.Tables.{table_of}
use Rattle.path_states.specs.Exploring.{IsExploring}
use Rattle.path_states.proofs.ExploringSteps.{IsExploring-next, IsExplored-from_exploring}
use Rattle.path_states.proofs.exploring.explore.Goals as goal

pub loop-class-preserved : goal.loop-class-preserved
loop-class-preserved c =
    let at = c.loop-class in
    let x = c.in-Some.«class» in
    let steps : into_iter_items at.class-iterator ≡ x ∷ into_iter_items c.next.new.self = c.in-Some.ensures.steps.0 in (
      append_assoc at.yielded (x ∷ []) _ ∙ rw (← steps) at.invariant.0,
      let gone = c.in-Some.ensures.steps.1 in let short = ap (λ (ks : List Class). length ks) steps in let was = at.invariant.1 in omega (arith, gone, short, was),
      let long = length-append at.yielded (x ∷ []) in omega (arith, long, at.invariant.2),
      c.in_ok-done.ensures.all,
      let next : suc at.number ≡ at.number + 1 = omega arith in
          subst (λ n. IsExploring c.args.arcs.now c.args.all.now (table_of c.close.new.table) (length c.close.new.table.states.keys) n n) next
          (IsExploring-next c.args.arcs.now c.args.all.now (table_of c.close.new.table) at.number c.in_ok-done.ensures.explored),
    )

pub returns : goal.returns
returns c =
    let at = c.loop-class in
    let none = c.in-None.ensures.steps in
    let empty : into_iter_items at.class-iterator ≡ [] = nil_from_length (into_iter_items at.class-iterator) (sym at.invariant.1 ∙ none.0) in
    let all = sym (append-nil at.yielded) ∙ rw empty at at.invariant.0 ∙ c.into_iter-class-iterator.ensures.into_iter_gives.0 in
    let count = ap (λ (ks : List Class). length ks) (all ∙ c.in_ok-class-items.ensures.classes) ∙ length-map c.args.all.now.launches (λ (l : Launch). class_of c.args.all.now l (l.pin.0 ∷ [])) in
    IsExplored-from_exploring c.args.arcs.now c.args.all.now (table_of at.table) at.number (omega (arith, at.invariant.2, count)) at.invariant.4

use Rattle.std.proofs.Common.{ℕ, List, ◌++◌, ◌≢◌, sym, ◌∙◌, ap, arith}
use Rattle.bud_design.specs.Designs.{place_at}
use Rattle.flat_design.specs.Fronts.{formed}
use Rattle.flat_design.proofs.FrontLaws.{front-no_slash, front-no_name, front-step, is_below}
use Rattle.flat_design.proofs.names.is_front.Goals as goal

pub returns-in_default-before_end : goal.returns-in_default-before_end
returns-in_default-before_end c =
    let parent = sym c.above.ensures ∙ c.in-Some.is in
    sym (front-no_slash c.args.places.now c.requires.places c.args.form c.loop-parent.place c.in-Some.parent c.loop-parent.rest.now c.loop-parent.invariant.1 parent c.in_default-before_end.ensures)
    ∙ c.loop-parent.invariant.0

pub returns-in_default-before_name : goal.returns-in_default-before_name
returns-in_default-before_name c =
    let parent = sym c.above.ensures ∙ c.in-Some.is in
    let none : (before : List ℕ) → c.in-Some-before_end.before.now ≢ before ++ formed c.args.form (place_at c.args.places.now c.loop-parent.place).name =
    λ before same. c.in_default-before_name.ensures before (same ∙ ap (λ s. before ++ formed c.args.form s) (sym c.own_name.ensures)) in
    sym (front-no_name c.args.places.now c.requires.places c.args.form c.loop-parent.place c.in-Some.parent c.loop-parent.rest.now c.in-Some-before_end.before.now c.loop-parent.invariant.1 parent c.in-Some-before_end.ensures none)
    ∙ c.loop-parent.invariant.0

pub loop-parent-preserved : goal.loop-parent-preserved
loop-parent-preserved c =
    let parent = sym c.above.ensures ∙ c.in-Some.is in
    let less = is_below c.args.places.now c.requires.places c.loop-parent.place c.in-Some.parent c.loop-parent.invariant.1 parent in (
      front-step c.args.places.now c.requires.places c.args.form c.loop-parent.place c.in-Some.parent c.loop-parent.rest.now c.in-Some-before_end.before.now c.in-Some-before_name.before.now c.loop-parent.invariant.1 parent c.in-Some-before_end.ensures
          (c.in-Some-before_name.ensures ∙ ap (λ s. c.in-Some-before_name.before.now ++ formed c.args.form s) c.own_name.ensures)
          ∙ c.loop-parent.invariant.0,
      omega (arith, less, c.loop-parent.invariant.1),
    )

use Rattle.std.proofs.Common.{ℕ, List, ◌++◌, ◌≢◌, sym, ◌∙◌, ap}
use Rattle.bud_design.specs.Designs.{place_at}
use Rattle.flat_design.specs.Fronts.{formed}
use Rattle.flat_design.proofs.FrontLaws.{instance-none, instance-some}
use Rattle.flat_design.proofs.names.is_instance.Goals as goal

pub returns-in-Some-before_name : goal.returns-in-Some-before_name
returns-in-Some-before_name c =
    let parent = sym c.above.ensures ∙ c.in-Some.is in
    c.is_front.ensures
    ∙ instance-some c.args.places.now c.requires.places c.args.form c.args.place c.in-Some.parent c.args.name.now c.in-Some-before_name.before.now c.requires.place parent
    (c.in-Some-before_name.ensures ∙ ap (λ s. c.in-Some-before_name.before.now ++ formed c.args.form s) c.own_name.ensures)

pub returns-in-None : goal.returns-in-None
returns-in-None c =
    let parent = sym c.above.ensures ∙ c.in-Some.is in
    let none : (before : List ℕ) → c.args.name.now ≢ before ++ formed c.args.form (place_at c.args.places.now c.args.place).name =
    λ before same. c.in-None.ensures before (same ∙ ap (λ s. before ++ formed c.args.form s) (sym c.own_name.ensures)) in
    sym (instance-none c.args.places.now c.requires.places c.args.form c.args.place c.in-Some.parent c.args.name.now c.requires.place parent none)

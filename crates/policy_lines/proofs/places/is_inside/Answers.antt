use Rattle.std.proofs.Common.{◌≡◌, ◌∙◌, [], Some, ap, arith}
use Rattle.std.proofs.lemmas.List.{get_or_default}
use Rattle.bud_design.specs.Designs.{place_at}
use Rattle.bud_design.specs.declared.designs.Place.{Place}
use Rattle.policy_lines.proofs.Insides.{inside-goes_up, parent-below}
use Rattle.policy_lines.proofs.places.is_inside.Goals as goal

pub loop-here-preserved : goal.loop-here-preserved
loop-here-preserved c =
    let other : c.loop-here.here ≡ c.args.root → ⊥ = λ same. grind (arith, same, c.loop-here-test.true) in
    let parent : (place_at c.args.places.now c.loop-here.here).parent ≡ Some c.in-Some.parent
    = ap (λ (x : Place). x.parent) (get_or_default c.args.places.now c.loop-here.here (place_at [] 0) _ c.loop-here.invariant.1) ∙ c.in-Some.is in
    let less = parent-below c.args.places.now c.requires.parents c.loop-here.here c.in-Some.parent c.loop-here.invariant.1 parent in
    let up = inside-goes_up c.args.places.now c.requires.parents c.args.root c.loop-here.here c.in-Some.parent c.loop-here.invariant.1 other parent in
    (c.loop-here.invariant.0 ∙ up, omega (arith, less, c.loop-here.invariant.1))

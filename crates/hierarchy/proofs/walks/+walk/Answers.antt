use Rattle.std.proofs.Common.{◌≡◌, ◌-◌, Option, arith, ◌∙◌, ap, subst}
use Rattle.module_nets.specs.Tops.{module_at}
use Rattle.hierarchy.specs.declared.walks.Child.{Child}
use Rattle.hierarchy.specs.Walking.{built_of, IsBegun, step, steps}
use Rattle.hierarchy.proofs.WalkLaws.{fault-through}
use Rattle.hierarchy.proofs.walks.+walk.Goals as goal

pub put_whole-returns-in-Err : goal.put_whole-returns-in-Err
put_whole-returns-in-Err t c =
    let modules = c.args.library.now.modules.now in
    let whole = step modules c.args.levels c.args.walk.now.trail c.args.here c.args.instance.now (built_of c.args.walk.now) in
    let mid = c.put_instance.new.walk in
    let child = c.in-Some.child in
    let begun = subst (λ (o : Option Child). IsBegun modules c.args.levels whole c.args.walk.now mid o) c.in-Some.is c.in_ok-begun.ensures in
    let below : begun.below ≡ c.args.levels - 1 = omega (arith, begun.levels_are) in
    fault-through (steps modules (c.args.levels - 1) child.kind mid.trail child.place (module_at modules child.kind).instances (built_of mid)) whole c.in-Err.fault
    (λ e. begun.rest ∙ (ap (λ n. steps modules n child.kind mid.trail child.place (module_at modules child.kind).instances (built_of mid)) below ∙ e)) c.in-Err.ensures

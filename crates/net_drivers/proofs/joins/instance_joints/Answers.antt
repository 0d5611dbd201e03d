use Rattle.std.proofs.Common.{◌≡◌, Option, Some, None, IfOk, Ok, ap, sym, subst, ◌∙◌}
use Rattle.std.specs.Option.{option_map}
use Rattle.bud_syntax.specs.declared.modules.Module.{Module}
use Rattle.module_nets.specs.Nets.{module_called}
use Rattle.net_drivers.specs.Joins.{IsJoined}
use Rattle.net_drivers.proofs.joins.instance_joints.Goals as goal

pub returns-in-Some : goal.returns-in-Some
returns-in-Some c =
    let modules = c.args.library.now.modules.now in
    let called = ap (option_map (λ h. h.now.module.now)) (sym c.in-Some.is) ∙ (c.child.ensures ∙ ap (module_called modules) c.as_slice.ensures) in
    let P : Option Module → Type 0 = λ o. IfOk c.child_joints.result (λ pairs. IsJoined c.args.table.now.module.now c.args.instance.now o pairs.items) in
    subst P called c.child_joints.ensures

pub returns-in-None : goal.returns-in-None
returns-in-None c =
    let modules = c.args.library.now.modules.now in
    let called = ap (option_map (λ h. h.now.module.now)) (sym c.in-None.is) ∙ (c.child.ensures ∙ ap (module_called modules) c.as_slice.ensures) in
    let P : Option Module → Type 0 = λ o. IsJoined c.args.table.now.module.now c.args.instance.now o c.new.result.items in
    subst P called c.new.ensures.items

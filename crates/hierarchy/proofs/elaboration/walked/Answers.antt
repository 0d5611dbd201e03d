use Rattle.std.proofs.Common.{◌≡◌, ◌+◌, [], ℕ, List, None, length, sym, ◌∙◌, ap}
use Rattle.bud_design.specs.declared.designs.Place.{Place}
use Rattle.bud_design.specs.declared.designs.Pin.{Pin}
use Rattle.module_nets.specs.Entering.{entered_count}
use Rattle.module_nets.specs.Nets.{port_bits}
use Rattle.module_nets.specs.Numbers.{capped}
use Rattle.module_nets.specs.Tops.{module_at}
use Rattle.elaborations.specs.Elaborations.{Built, enter, entering_fault, top_entry, top_built, with_place}
use Rattle.hierarchy.specs.Walking.{entry_at, built_of, steps}
use Rattle.hierarchy.proofs.TopLaws.{uncapped, top-refused, top-entered}
use Rattle.hierarchy.proofs.WalkLaws.{fault-through, refusal-through, steps-trail}
use Rattle.hierarchy.proofs.elaboration.walked.Goals as goal

pub returns-in-Err : goal.returns-in-Err
returns-in-Err c =
    let modules = c.args.library.now.modules.now in
    let m = module_at modules c.args.kind in
    let trail = c.in_ok-walk.walk.trail in
    let bits = c.header.result.now.bits in
    let is : bits ≡ capped (length (port_bits m)) = c.header.result.now.counted ∙ ap (λ x. capped (length (port_bits x))) c.header.ensures in
    refusal-through (entering_fault modules (entry_at modules c.args.kind trail) (bits + entered_count modules m)) (enter 257 modules (top_entry m) 0 (top_built m)) c.in-Err.fault
    (λ refused. top-refused modules c.args.kind trail c.in_ok-walk.ensures.begun.path c.in_ok-walk.ensures.begun.line bits c.in-Err.fault is refused) c.in-Err.ensures.answer

pub returns-in-Ok-put_inside : goal.returns-in-Ok-put_inside
returns-in-Ok-put_inside c =
    let modules = c.args.library.now.modules.now in
    let m = module_at modules c.args.kind in
    let from = c.in_ok-walk.ensures.begun in
    let w = c.in_ok-walk.walk in
    let e = entry_at modules c.args.kind w.trail in
    let k = entered_count modules m in
    let new = c.put_module.new.walk in
    let bits = c.header.result.now.bits in
    let is : bits ≡ capped (length (port_bits m)) = c.header.result.now.counted ∙ ap (λ x. capped (length (port_bits x))) c.header.ensures in
    let exact : bits ≡ length (port_bits m) = is ∙ uncapped modules e (length (port_bits m)) k (sym (ap (λ n. entering_fault modules e (n + k)) is) ∙ c.in-Ok.ensures.answer) in
    let count : c.in-Ok.count ≡ length (port_bits m) + k = c.in-Ok.ensures.entered.count ∙ ap (λ n. n + k) exact in
    let mid : List Place → List Pin → ℕ → Built = λ ps us n. record { places = ps; pins = us; count = n } in
    let made : built_of new ≡ record (top_built m) { count = length (port_bits m) + k } =
    c.in_ok-here.ensures.built
    ∙ (ap (λ n. with_place n None m (mid w.places.items w.pins.items c.in-Ok.count)) c.new.ensures
    ∙ (ap (λ ps. with_place [] None m (mid ps w.pins.items c.in-Ok.count)) from.places
    ∙ (ap (λ us. with_place [] None m (mid [] us c.in-Ok.count)) from.pins
    ∙ ap (λ n. with_place [] None m (mid [] [] n)) count))) in
    let here : c.in_ok-here.here ≡ 0 = c.in_ok-here.ensures.number ∙ ap length from.places in
    let onward = sym (steps-trail modules 256 c.args.kind w.trail new.trail 0 m.instances (built_of new) c.in_ok-here.ensures.trail)
    ∙ ap (λ p. steps modules 256 c.args.kind new.trail p m.instances (built_of new)) (sym here) in
    record {
      built = top-entered modules c.args.kind w.trail from.path from.line bits (built_of new) is c.in-Ok.ensures.answer made ∙ (onward ∙ c.in-Ok-put_inside.ensures.built);
      walk = c.in-Ok-put_inside.ensures.walk;
    }

pub returns-in-Err-put_inside : goal.returns-in-Err-put_inside
returns-in-Err-put_inside c =
    let modules = c.args.library.now.modules.now in
    let m = module_at modules c.args.kind in
    let from = c.in_ok-walk.ensures.begun in
    let w = c.in_ok-walk.walk in
    let e = entry_at modules c.args.kind w.trail in
    let k = entered_count modules m in
    let new = c.put_module.new.walk in
    let bits = c.header.result.now.bits in
    let is : bits ≡ capped (length (port_bits m)) = c.header.result.now.counted ∙ ap (λ x. capped (length (port_bits x))) c.header.ensures in
    let exact : bits ≡ length (port_bits m) = is ∙ uncapped modules e (length (port_bits m)) k (sym (ap (λ n. entering_fault modules e (n + k)) is) ∙ c.in-Ok.ensures.answer) in
    let count : c.in-Ok.count ≡ length (port_bits m) + k = c.in-Ok.ensures.entered.count ∙ ap (λ n. n + k) exact in
    let mid : List Place → List Pin → ℕ → Built = λ ps us n. record { places = ps; pins = us; count = n } in
    let made : built_of new ≡ record (top_built m) { count = length (port_bits m) + k } =
    c.in_ok-here.ensures.built
    ∙ (ap (λ n. with_place n None m (mid w.places.items w.pins.items c.in-Ok.count)) c.new.ensures
    ∙ (ap (λ ps. with_place [] None m (mid ps w.pins.items c.in-Ok.count)) from.places
    ∙ (ap (λ us. with_place [] None m (mid [] us c.in-Ok.count)) from.pins
    ∙ ap (λ n. with_place [] None m (mid [] [] n)) count))) in
    let here : c.in_ok-here.here ≡ 0 = c.in_ok-here.ensures.number ∙ ap length from.places in
    let onward = sym (steps-trail modules 256 c.args.kind w.trail new.trail 0 m.instances (built_of new) c.in_ok-here.ensures.trail)
    ∙ ap (λ p. steps modules 256 c.args.kind new.trail p m.instances (built_of new)) (sym here) in
    fault-through (steps modules 256 c.args.kind new.trail c.in_ok-here.here m.instances (built_of new)) (enter 257 modules (top_entry m) 0 (top_built m)) c.in-Err-put_inside.fault
    (λ done. top-entered modules c.args.kind w.trail from.path from.line bits (built_of new) is c.in-Ok.ensures.answer made ∙ (onward ∙ done)) c.in-Err-put_inside.ensures

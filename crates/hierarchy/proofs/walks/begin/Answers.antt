use Rattle.std.proofs.Common.{◌≡◌, ◌<◌, ◌+◌, ◌-◌, ◌∷◌, [], ℕ, suc, List, Some, length, arith, sym, ◌∙◌, ap, subst}
use Rattle.std.specs.Prelude.{All}
use Rattle.std.proofs.lemmas.List.Elements.{All-nil, All-cons, All-append}
use Rattle.bud_design.specs.Names.{printed}
use Rattle.module_nets.specs.Entering.{entered_count}
use Rattle.module_nets.specs.Tops.{module_at}
use Rattle.elaborations.specs.Elaborations.{Built, entering_fault, with_place}
use Rattle.hierarchy.specs.Walking.{entry_at, built_of, GoesOn, step, steps}
use Rattle.hierarchy.proofs.WalkLaws.{called-itself, refusal-through, step-refused, step-begun, steps-trail, kinds-keep}
use Rattle.hierarchy.proofs.walks.begin.Goals as goal

pub returns-in-Err : goal.returns-in-Err
returns-in-Err c =
    let modules = c.args.library.now.modules.now in
    let old = c.args.walk.now in
    let below = c.args.levels - 1 in
    let levels : c.args.levels ≡ suc below = omega (arith, c.if-levels-eq0.false) in
    let name : c.in_ok-name.name ≡ printed c.args.instance.now.name = c.in_ok-name.ensures.printed ∙ ap printed c.as_slice.ensures in
    let goes = subst (λ (n : List ℕ). GoesOn n c.args.kind old.trail c.go_on.new.trail) name c.in_ok-go_on.ensures.went in
    refusal-through (entering_fault modules (entry_at modules c.args.kind c.go_on.new.trail) (old.count + entered_count modules (module_at modules c.args.kind)))
    (step modules c.args.levels old.trail c.args.here c.args.instance.now (built_of old)) c.in-Err.fault
    (λ refused. ap (λ n. step modules n old.trail c.args.here c.args.instance.now (built_of old)) levels
    ∙ step-refused modules below old.trail c.go_on.new.trail c.args.here c.args.instance.now c.args.kind (built_of old) c.in-Err.fault c.requires.called c.requires.plain goes refused)
    c.in-Err.ensures.answer

pub put_module-requires-clause-walk : goal.put_module-requires-clause-walk
put_module-requires-clause-walk c =
    let modules = c.args.library.now.modules.now in
    let P : ℕ → Type 0 = λ n. n < length modules in
    record {
      trail = record {
        line = subst (λ (line : List ℕ). All (λ n. n < length modules) line) (sym c.in_ok-go_on.ensures.went.line)
            (All-append P c.args.walk.now.trail.line.items (c.args.kind ∷ []) c.requires.walk.trail.line (All-cons P c.args.kind [] c.requires.kind (All-nil P)));
      };
      survey = c.in-Ok.ensures.entered.survey;
      kinds = kinds-keep modules c.args.walk.now.survey.known.items c.enter_module.new.survey.known.items c.args.walk.now.places.items c.args.walk.now.kinds.items c.in-Ok.ensures.entered.keeps.known c.requires.walk.kinds;
      short = c.requires.walk.short;
    }

pub put_module-requires-clause-called : goal.put_module-requires-clause-called
put_module-requires-clause-called c = called-itself c.args.library.now.modules.now c.args.instance.now.«module» (module_at c.args.library.now.modules.now c.args.kind) c.requires.called

pub returns : goal.returns
returns c =
    let modules = c.args.library.now.modules.now in
    let old = c.args.walk.now in
    let m = module_at modules c.args.kind in
    let i = c.args.instance.now in
    let new = c.put_module.new.walk in
    let on = c.go_on.new.trail in
    let below = c.args.levels - 1 in
    let levels : c.args.levels ≡ suc below = omega (arith, c.if-levels-eq0.false) in
    let name : c.in_ok-name.name ≡ printed i.name = c.in_ok-name.ensures.printed ∙ ap printed c.as_slice.ensures in
    let again : c.in_ok-name-2.name ≡ printed i.name = c.in_ok-name-2.ensures.printed ∙ ap printed c.as_slice-2.ensures in
    let goes = subst (λ (n : List ℕ). GoesOn n c.args.kind old.trail on) name c.in_ok-go_on.ensures.went in
    let mid : Built = record { places = old.places.items; pins = old.pins.items; count = c.in-Ok.count } in
    let next : built_of new ≡ record (with_place (printed i.name) (Some c.args.here) m (built_of old)) { count = old.count + entered_count modules m } =
    c.in_ok-place.ensures.built
    ∙ (ap (λ n. with_place n (Some c.args.here) m mid) again
    ∙ ap (λ k. record (with_place (printed i.name) (Some c.args.here) m (built_of old)) { count = k }) c.in-Ok.ensures.entered.count) in
    record {
      below = below;
      levels_are = levels;
      kind = c.requires.kind;
      name = printed i.name;
      trail = record { path = c.in_ok-place.ensures.trail.path ∙ goes.path; line = c.in_ok-place.ensures.trail.line ∙ goes.line };
      rest = ap (λ n. step modules n old.trail c.args.here i (built_of old)) levels
          ∙ (step-begun modules below old.trail on c.args.here i c.args.kind (built_of old) (built_of new) c.requires.called c.requires.plain goes c.in-Ok.ensures.answer next
          ∙ (sym (steps-trail modules below c.args.kind on new.trail (length old.places.items) m.instances (built_of new) c.in_ok-place.ensures.trail)
          ∙ ap (λ p. steps modules below c.args.kind new.trail p m.instances (built_of new)) (sym c.in_ok-place.ensures.number)));
      walk = c.in_ok-place.ensures.walk;
    }

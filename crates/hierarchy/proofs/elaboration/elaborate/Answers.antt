use Rattle.std.proofs.Common.{List, Err, ◌∙◌, subst}
use Rattle.std.specs.Option.{option_map}
use Rattle.bud_syntax.specs.declared.modules.Module.{Module}
use Rattle.module_nets.specs.Tops.{module_at}
use Rattle.elaborations.specs.Elaborations.{elaborated, enter, top_entry, top_built, IsFlatDesign, IsElaborateAnswer}
use Rattle.elaborations.proofs.Tops.{top-called}
use Rattle.hierarchy.proofs.AnswerLaws.{fault-answer, top-walked, design-answer}
use Rattle.hierarchy.proofs.WalkLaws.{fault-through}
use Rattle.hierarchy.proofs.elaboration.elaborate.Goals as goal

pub walked-requires-clause-plain : goal.walked-requires-clause-plain
walked-requires-clause-plain c =
    let modules = c.in_ok-library.library.modules.now in
    (top-called modules (option_map (λ n. n.now) c.args.top) (module_at modules c.in_ok-kind.kind) c.in_ok-kind.ensures.1).1

pub walked-requires-clause-called : goal.walked-requires-clause-called
walked-requires-clause-called c =
    let modules = c.in_ok-library.library.modules.now in
    (top-called modules (option_map (λ n. n.now) c.args.top) (module_at modules c.in_ok-kind.kind) c.in_ok-kind.ensures.1).0

pub returns-in-Err : goal.returns-in-Err
returns-in-Err c =
    let modules = c.in_ok-library.library.modules.now in
    let top = option_map (λ n. n.now) c.args.top in
    let m = module_at modules c.in_ok-kind.kind in
    let fault = c.in-Err.fault in
    subst (λ (ms : List Module). IsElaborateAnswer ms top (Err fault)) c.in_ok-library.ensures.modules
    (fault-answer modules top fault
    (fault-through (enter 257 modules (top_entry m) 0 (top_built m)) (elaborated modules top) fault (λ e. top-walked modules top m c.in_ok-kind.ensures.1 ∙ e) c.in-Err.ensures))

pub finished-requires-clause-built : goal.finished-requires-clause-built
finished-requires-clause-built c =
    let modules = c.in_ok-library.library.modules.now in
    let top = option_map (λ n. n.now) c.args.top in
    record { top = top; built = top-walked modules top (module_at modules c.in_ok-kind.kind) c.in_ok-kind.ensures.1 ∙ c.in-Ok.ensures.built }

pub returns-in-Ok-finished : goal.returns-in-Ok-finished
returns-in-Ok-finished c =
    let modules = c.in_ok-library.library.modules.now in
    let top = option_map (λ n. n.now) c.args.top in
    let flat = c.in-Ok-finished.flat in
    subst (λ (ms : List Module). IsFlatDesign ms top flat) c.in_ok-library.ensures.modules
    (design-answer modules top c.in-Ok.walk flat (top-walked modules top (module_at modules c.in_ok-kind.kind) c.in_ok-kind.ensures.1 ∙ c.in-Ok.ensures.built) c.in-Ok-finished.ensures.flat)

use Rattle.std.proofs.Common.{◌≡◌, ◌+◌, ◌∷◌, ◌∙◌, ap, sym, drop}
use Rattle.std.proofs.lemmas.List.{drop_more}
use Rattle.bud_design.specs.declared.policies.NumberedCommand.{NumberedCommand}
use Rattle.std.proofs.lemmas.Result.{err_from_is_err_and}
use Rattle.timing_objects.specs.Answers.{Answer, Fails}
use Rattle.timing_objects.proofs.AnswerLaws.{fails_behind}
use Rattle.timing_scopes.specs.declared.scopes.Scope.{Scope}
use Rattle.timing_scopes.specs.Resolving.{with_command, resolved_from}
use Rattle.timing_scopes.proofs.commands.scope_of.Goals as goal

pub returns-in_err-add_command-clause-answer : goal.returns-in_err-add_command-clause-answer
returns-in_err-add_command-clause-answer c =
    let p = err_from_is_err_and c.from_residual.result c.from_residual.ensures.1 in
    let all = c.args.commands.now in
    let i = c.loop-command.command-index in
    let command = c.command-item.result in
    let P : Answer Scope → Type 0 = λ answer. Fails c.in_err-add_command.field-0.0 answer in
    let here : drop i all ≡ command ∷ drop (i + 1) all =
    drop_more all i command c.loop-command-test.true ∙ ap (λ (x : NumberedCommand). x ∷ drop (i + 1) all) (sym c.command-item.is) in
    let behind : P (resolved_from c.args.scene.now c.loop-command.scope (command ∷ drop (i + 1) all)) =
    fails_behind c.in_err-add_command.field-0.0 (with_command c.args.scene.now c.loop-command.scope command.number command.command)
    (λ scope. resolved_from c.args.scene.now scope (drop (i + 1) all)) c.in_err-add_command.ensures.answer in
    rw (p.1, p.2, c.loop-command.invariant.0, here) behind

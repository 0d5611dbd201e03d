use Rattle.std.proofs.lemmas.Result.{err_from_is_err_and}
use Rattle.edit_reader.specs.Lines.IsLine.{add}
use Rattle.edit_reader.proofs.ScriptLaws.{added_refused, added_breached}
use Rattle.edit_reader.proofs.lines.added.Goals as goal

pub returns-in_err-command-clause-answer : goal.returns-in_err-command-clause-answer
returns-in_err-command-clause-answer c =
    let p = err_from_is_err_and c.from_residual.result c.from_residual.ensures.1 in
    rw (p.1, p.2) (added_refused _ _ _ _ c.requires.add c.in_err-command.ensures.answer)

pub returns-in-Command-clause-answer : goal.returns-in-Command-clause-answer
returns-in-Command-clause-answer c = add _ _ c.requires.add (rw c.in-Command.is at c.in_ok-command.ensures.answer)

pub returns-in-OutOfRange-clause-answer : goal.returns-in-OutOfRange-clause-answer
returns-in-OutOfRange-clause-answer c = added_breached _ _ _ _ c.requires.add (rw c.in-OutOfRange.is at c.in_ok-command.ensures.answer)

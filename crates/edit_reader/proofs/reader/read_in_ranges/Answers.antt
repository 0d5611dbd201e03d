use Rattle.std.proofs.lemmas.Result.{err_from_is_err_and}
use Rattle.edit_reader.proofs.ScriptLaws.{refused}
use Rattle.edit_reader.proofs.reader.read_in_ranges.Goals as goal

pub returns-in_err-script-clause-answer : goal.returns-in_err-script-clause-answer
returns-in_err-script-clause-answer c =
    let p = err_from_is_err_and c.from_residual.result c.from_residual.ensures.1 in
    rw (p.1, p.2) (refused _ _ c.in_err-script.ensures.answer)

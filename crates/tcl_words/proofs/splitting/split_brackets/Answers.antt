use Rattle.std.proofs.Common.{rules}
use Rattle.std.proofs.lemmas.Result.{err_from_is_err_and}
use Rattle.tcl_words.proofs.SplitLemmas.{brackets_over, brackets_closed, brackets_refused}
use Rattle.tcl_words.proofs.splitting.split_brackets.Goals as goal

pub returns-in_err-words : goal.returns-in_err-words
returns-in_err-words c =
    let p = err_from_is_err_and c.from_residual.result c.from_residual.ensures.1 in
    rw (p.1, p.2) (brackets_refused c.args.at c.args.text.now c.in_err-words.field-0.0 c.in_err-words.ensures.answer)

pub returns-then-end-text : goal.returns-then-end-text
returns-then-end-text c = brackets_closed c.args.at c.args.text.now c.in_ok-words.end c.in_ok-words.words c.in_ok-words.ensures.answer (search rules)

pub returns : goal.returns
returns c = brackets_over c.args.at c.args.text.now c.in_ok-words.end c.in_ok-words.words c.in_ok-words.ensures.answer (search rules)

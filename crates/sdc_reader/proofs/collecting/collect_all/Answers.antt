use Rattle.std.proofs.Common.{sym, ◌∙◌, subst}
use Rattle.std.proofs.lemmas.List.{drop_all}
use Rattle.std.proofs.lemmas.Result.{err_from_is_err_and}
use Rattle.sdc_reader.specs.declared.given.Collected.{Collected}
use Rattle.sdc_reader.specs.Answers.{Answer, Fails}
use Rattle.sdc_reader.proofs.CollectedLemmas.{from_item, collected_turn, collected_fails, collected_end}
use Rattle.sdc_reader.proofs.collecting.collect_all.Goals as goal

pub returns-in_err-so_far : goal.returns-in_err-so_far
returns-in_err-so_far c =
    let p = err_from_is_err_and c.from_residual.result c.from_residual.ensures.1 in
    let P : Answer Collected → Type 0 = λ read. Fails c.in_err-so_far.field-0.0 read in
    let here = from_item c.args.words.now c.loop-opened.opened-index c.opened-item.result c.loop-opened-test.true c.opened-item.is in
    rw (p.1, p.2) (subst P c.loop-opened.invariant (collected_fails _ _ _ _ _ c.in_err-so_far.field-0.0 here c.in_err-so_far.ensures))

pub loop-opened-preserved : goal.loop-opened-preserved
loop-opened-preserved c =
    let here = from_item c.args.words.now c.loop-opened.opened-index c.opened-item.result c.loop-opened-test.true c.opened-item.is in
    collected_turn _ _ _ _ _ _ here c.in_ok-so_far.ensures ∙ c.loop-opened.invariant

pub returns : goal.returns
returns c =
    let none = drop_all c.loop-opened.opened-index c.args.words.now c.loop-opened-test.false in
    sym c.loop-opened.invariant ∙ collected_end _ _ _ none

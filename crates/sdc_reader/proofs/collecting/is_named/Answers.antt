use Rattle.std.proofs.Common.{sym, ◌∙◌}
use Rattle.std.proofs.lemmas.List.{drop_all}
use Rattle.sdc_reader.proofs.CollectedLemmas.{from_item, named_found, named_on, named_end}
use Rattle.sdc_reader.proofs.collecting.is_named.Goals as goal

pub returns-then-is_name_option : goal.returns-then-is_name_option
returns-then-is_name_option c =
    let here = from_item c.args.words.now c.loop-opened.opened-index c.opened-item.result c.loop-opened-test.true c.opened-item.is in
    sym (sym c.loop-opened.invariant ∙ named_found _ _ _ _ _ here (sym c.is_name_option.ensures ∙ c.if-is_name_option.true))

pub loop-opened-preserved : goal.loop-opened-preserved
loop-opened-preserved c =
    let here = from_item c.args.words.now c.loop-opened.opened-index c.opened-item.result c.loop-opened-test.true c.opened-item.is in
    rw c.owns_next-owned.ensures (sym (named_on _ _ _ _ _ here (sym c.is_name_option.ensures ∙ c.if-is_name_option.false)) ∙ c.loop-opened.invariant)

pub returns : goal.returns
returns c =
    let none = drop_all c.loop-opened.opened-index c.args.words.now c.loop-opened-test.false in
    sym (sym c.loop-opened.invariant ∙ named_end _ _ _ none)

use Rattle.std.proofs.Common.{rules}
use Rattle.tcl_words.proofs.ListLemmas.{no_element, first_element}
use Rattle.tcl_words.proofs.lists.next_element.Goals as goal

pub returns-then-start-end-clause-first : goal.returns-then-start-end-clause-first
returns-then-start-end-clause-first c = no_element c.args.kind c.args.list.now c.element_start-start.result c.element_end-end.result c.element_start-start.ensures.first c.element_end-end.ensures.rest (search rules)

pub returns-clause-first : goal.returns-clause-first
returns-clause-first c =
    first_element c.args.kind c.args.list.now c.element_start-start.result c.element_end-end.result c.element_start-start.ensures.first c.element_end-end.ensures.rest (search rules) (search rules) (search rules)

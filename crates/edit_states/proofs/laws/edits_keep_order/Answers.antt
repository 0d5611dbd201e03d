use Rattle.edit_states.proofs.NumberLaws.{keeps}
use Rattle.edit_states.proofs.laws.edits_keep_order.Goals as goal

pub returns-clause-numbers : goal.returns-clause-numbers
returns-clause-numbers c = λ s e new numbers is. (keeps s e new numbers is).0

pub returns-clause-next : goal.returns-clause-next
returns-clause-next c = λ s e new numbers is. (keeps s e new numbers is).1

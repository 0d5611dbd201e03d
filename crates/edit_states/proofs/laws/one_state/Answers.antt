use Rattle.std.proofs.Common.{sym, ◌∙◌}
use Rattle.edit_states.proofs.NumberLaws.{same_state}
use Rattle.edit_states.proofs.laws.one_state.Goals as goal

pub returns : goal.returns
returns c = λ s e a b first second. same_state a b (sym first.0.edited_is ∙ second.0.edited_is)

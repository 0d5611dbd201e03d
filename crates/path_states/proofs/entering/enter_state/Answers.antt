use Rattle.path_states.proofs.EnteredLists.{IsEntered-inserted, State-decides}
use Rattle.path_states.proofs.entering.enter_state.Goals as goal

pub returns-in-Ok-clause-entered : goal.returns-in-Ok-clause-entered
returns-in-Ok-clause-entered c =
    let stored = c.in-Ok.ensures.stored in
    IsEntered-inserted _ State-decides _ _ _ _ c.in-Ok.ensures.keys c.in-Ok.ensures.within (record { key = stored.0; stands = stored.1; same = stored.2 })

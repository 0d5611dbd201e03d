use Rattle.std.proofs.lemmas.Result.{err_from_is_err_and}
use Rattle.bud_base.proofs.CheckLemmas.{range_accepts_sound, order_accepts_sound, IsCheckAnswer-from_live, IsSound-from_live}
use Rattle.bud_base.proofs.SoundLemmas.{NamesOwnNodes-from_range}
use Rattle.bud_base.proofs.problems.Problem.check.Goals as goal

pub returns-in_err-check_ranges-clause-refused : goal.returns-in_err-check_ranges-clause-refused
returns-in_err-check_ranges-clause-refused c = λ sound. absurd (range_accepts_sound _ _ c.in_err-check_ranges.ensures sound)

pub find_order-requires-clause-names : goal.find_order-requires-clause-names
find_order-requires-clause-names c = NamesOwnNodes-from_range _ c.in_ok-check_ranges.ensures.nodes

pub returns-in_err-order-clause-refused : goal.returns-in_err-order-clause-refused
returns-in_err-order-clause-refused c = λ sound.
    let given = err_from_is_err_and c.from_residual-in_err-order.result c.from_residual-in_err-order.ensures.1 in
    rw (given.1, given.2) (order_accepts_sound _ _ c.in_err-order.ensures sound)

pub check_live-requires-clause-names : goal.check_live-requires-clause-names
check_live-requires-clause-names c = NamesOwnNodes-from_range _ c.in_ok-check_ranges.ensures.nodes

pub returns-clause-first : goal.returns-clause-first
returns-clause-first c = IsCheckAnswer-from_live _ _ c.in_ok-check_ranges.ensures (_, c.in_ok-order.ensures.in_order) c.check_live.ensures

pub returns-clause-sound : goal.returns-clause-sound
returns-clause-sound c = IsSound-from_live _ _ c.in_ok-check_ranges.ensures (_, c.in_ok-order.ensures.in_order) c.check_live.ensures

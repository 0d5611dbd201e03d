use Rattle.bud_base.proofs.Sums.{slack-ge_arrivals, sum_along-le_room}
use Rattle.bud_base.proofs.laws.arrivals_bound_paths.Goals as goal

pub returns-clause-slack : goal.returns-clause-slack
returns-clause-slack c = slack-ge_arrivals

pub returns-clause-room : goal.returns-clause-room
returns-clause-room c = sum_along-le_room

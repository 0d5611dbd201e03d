use Rattle.std.proofs.Common.{arith}
use Rattle.std.proofs.lemmas.Int.{ints}
use Rattle.flow_solver.proofs.searches.distance_along.Goals as goal

pub overflow_add-result : goal.overflow_add-result
overflow_add-result c =
    let small = c.requires.small in
    let cost = c.cost_along.ensures.within in
    omega (arith, ints, small.low, small.high, cost.low, cost.high)

pub returns-clause-distance : goal.returns-clause-distance
returns-clause-distance c =
    let small = c.requires.small in
    let cost = c.cost_along.ensures.within in
    omega (arith, ints, small.low, small.high, cost.low, cost.high, c.cost_along.ensures.cost)

pub returns-clause-within : goal.returns-clause-within
returns-clause-within c =
    let small = c.requires.small in
    let cost = c.cost_along.ensures.within in
    record { low = omega (arith, ints, small.low, small.high, cost.low, cost.high); high = omega (arith, ints, small.low, small.high, cost.low, cost.high) }

use Rattle.std.proofs.Common.{◌<◌, ◌<ℤ◌, ℕ}
use Rattle.bud_flow.specs.Sums.{number_at}
use Rattle.residual.specs.Arcs.{full}
use Rattle.residual.proofs.tests.has_room.Given as goal

abbrev pub invariant-loop-arc : goal.invariant-loop-arc
invariant-loop-arc g l = (j : ℕ) → j < l.arc → number_at l.net.flows j <ℤ full

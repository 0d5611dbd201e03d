use Rattle.std.proofs.Common.{◌≡◌, ◌<◌, ℕ, length}
use Rattle.bud_flow.specs.Sums.{number_at}
use Rattle.residual.specs.Excesses.{excess_below}
use Rattle.residual.proofs.arcs.fill_excesses.Given as goal

abbrev pub invariant-loop-arc : goal.invariant-loop-arc
invariant-loop-arc l = (v : ℕ) → v < length l.excess → number_at l.excess v ≡ excess_below l.arc l.arcs l.flows v

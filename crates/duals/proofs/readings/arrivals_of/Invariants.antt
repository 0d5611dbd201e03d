use Rattle.std.proofs.Common.{◌≡◌, pos}
use Rattle.bud_flow.specs.Sums.{number_at}
use Rattle.duals.specs.Terms.{AreTerms}
use Rattle.duals.proofs.readings.arrivals_of.Given as goal

abbrev pub invariant-loop-node : goal.invariant-loop-node
invariant-loop-node l = AreTerms (number_at l.fn.net.potentials) l.node l.arrivals.items × (l.root ≡ pos 0)

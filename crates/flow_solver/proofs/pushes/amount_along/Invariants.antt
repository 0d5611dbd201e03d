use Rattle.flow_solver.specs.Entries.{place_at}
use Rattle.flow_solver.proofs.Amounts.{IsMeasured}
use Rattle.flow_solver.specs.Spreading.{entries_of}
use Rattle.flow_solver.proofs.pushes.amount_along.Given as goal

abbrev pub invariant-way : goal.invariant-way
invariant-way g l = IsMeasured l.net (entries_of l.front.entries) l.fn.node.0 l.amount l.at.0

abbrev pub decreases-way : goal.decreases-way
decreases-way g l = place_at (entries_of l.front.entries) l.at.0

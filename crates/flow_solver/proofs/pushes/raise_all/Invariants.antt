use Rattle.flow_solver.specs.Entries.{label_at}
use Rattle.flow_solver.specs.Lifts.{AreLiftedBelow}
use Rattle.flow_solver.specs.Spreading.{entries_of}
use Rattle.flow_solver.proofs.pushes.raise_all.Given as goal

abbrev pub invariant-loop-node : goal.invariant-loop-node
invariant-loop-node l = AreLiftedBelow l.fn.net l.net (label_at (entries_of l.front.entries) l.last) l.node

use Rattle.flow_solver.specs.Entries.{label_at}
use Rattle.flow_solver.specs.Spreading.{entries_of}
use Rattle.flow_solver.proofs.Raising.{AreLiftedAmong}
use Rattle.flow_solver.proofs.pushes.raise_taken.Given as goal

abbrev pub invariant-loop-place : goal.invariant-loop-place
invariant-loop-place l = AreLiftedAmong l.fn.net l.net (label_at (entries_of l.front.entries) l.last) l.last l.front.taken l.place

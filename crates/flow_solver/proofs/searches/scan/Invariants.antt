use Rattle.flow_solver.proofs.Looking.{AreLookedAlong}
use Rattle.flow_solver.proofs.searches.scan.Given as goal

abbrev pub invariant-loop-place : goal.invariant-loop-place
invariant-loop-place g l = AreLookedAlong l.net l.near l.fn.front l.front l.place

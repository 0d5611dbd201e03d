use Rattle.registers.specs.Launches.{AreLaunches}
use Rattle.registers.proofs.launches.launch_edges.Given as goal

abbrev pub invariant-loop-pin : goal.invariant-loop-pin
invariant-loop-pin l = AreLaunches l.marks l.pin l.edges.items

use Rattle.std.proofs.Common.{◌-◌, length}
use Rattle.port_nodes.proofs.Chaining.{ArePut}
use Rattle.port_nodes.proofs.nodes.put_nodes.Given as goal

abbrev pub invariant-loop-node : goal.invariant-loop-node
invariant-loop-node l = ArePut l.layered l.fn.pin.0 l.fn.out.items l.out.items l.node

abbrev pub decreases-loop-node : goal.decreases-loop-node
decreases-loop-node l = length l.layered.nodes - l.node

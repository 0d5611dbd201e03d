use Rattle.std.proofs.Common.{◌≡◌, ◌++◌, drop}
use Rattle.port_nodes.specs.NodeChains.{pins_of_nodes}
use Rattle.port_nodes.proofs.nodes.pins_of.Given as goal

abbrev pub invariant-loop-node : goal.invariant-loop-node
invariant-loop-node l = l.pins.items ++ pins_of_nodes (drop l.node-index l.nodes) ≡ pins_of_nodes l.nodes

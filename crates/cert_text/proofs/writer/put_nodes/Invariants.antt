use Rattle.std.proofs.Common.{◌≡◌, ◌++◌, drop}
use Rattle.std.specs.List.{flat_map}
use Rattle.cert_text.specs.Writing.{node_line}
use Rattle.cert_text.proofs.writer.put_nodes.Given as goal

-- the lines so far and those of what is left are all lines
abbrev pub invariant-loop-node : goal.invariant-loop-node
invariant-loop-node l = l.out.items ++ flat_map node_line (drop l.node-index l.nodes) ≡ l.fn.out.items ++ flat_map node_line l.nodes

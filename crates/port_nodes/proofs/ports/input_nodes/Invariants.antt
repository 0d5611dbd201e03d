use Rattle.std.proofs.Common.{◌≡◌, ◌==◌, ◌++◌, length}
use Rattle.bud_design.specs.Designs.{pin_at, is_input}
use Rattle.block_theory.specs.BlockPorts.{nodes_at, input_nodes}
use Rattle.port_nodes.proofs.Ranges.{given_from}
use Rattle.port_nodes.proofs.ports.input_nodes.Given as goal

abbrev pub invariant-loop-number : goal.invariant-loop-number
invariant-loop-number l =
    l.out.items ++ given_from (λ v. (pin_at l.flat.pins v).place == l.block) (λ v. is_input (pin_at l.flat.pins v).dir) (nodes_at l.layered) (length l.flat.pins) l.number ≡ input_nodes l.flat l.layered l.block

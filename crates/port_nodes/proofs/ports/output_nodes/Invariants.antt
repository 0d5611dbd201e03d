use Rattle.std.proofs.Common.{◌≡◌, ◌==◌, ◌++◌, length}
use Rattle.bud_design.specs.Designs.{pin_at, is_output}
use Rattle.block_theory.specs.BlockPorts.{nodes_at, output_nodes}
use Rattle.port_nodes.proofs.Ranges.{given_from}
use Rattle.port_nodes.proofs.ports.output_nodes.Given as goal

abbrev pub invariant-loop-number : goal.invariant-loop-number
invariant-loop-number l =
    l.out.items ++ given_from (λ v. (pin_at l.flat.pins v).place == l.block) (λ v. is_output (pin_at l.flat.pins v).dir) (nodes_at l.layered) (length l.flat.pins) l.number ≡ output_nodes l.flat l.layered l.block

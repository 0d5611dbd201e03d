use Rattle.std.proofs.Common.{◌≡◌, drop, find, flat_map, not}
use Rattle.block_theory.specs.BlockValues.{output_values, is_within_limit}
use Rattle.block_checks.proofs.values.past_outputs.Given as goal

abbrev pub invariant-loop-node : goal.invariant-loop-node
invariant-loop-node l =
    find (λ z. not (is_within_limit z)) (flat_map (output_values l.all l.layered l.extremes.early.items l.extremes.late.items) l.nodes)
    ≡ find (λ z. not (is_within_limit z)) (flat_map (output_values l.all l.layered l.extremes.early.items l.extremes.late.items) (drop l.node-index l.nodes))

use Rattle.std.proofs.Common.{◌≡◌, drop}
use Rattle.block_theory.specs.BlockValues.{value_past}
use Rattle.block_checks.proofs.values.past_blocks.Given as goal

abbrev pub invariant-loop-block : goal.invariant-loop-block
invariant-loop-block l =
    value_past l.flat l.all l.layered l.extremes.early.items l.extremes.late.items l.blocks
    ≡ value_past l.flat l.all l.layered l.extremes.early.items l.extremes.late.items (drop l.block-index l.blocks)

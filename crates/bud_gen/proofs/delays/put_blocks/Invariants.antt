use Rattle.std.proofs.Common.{◌≡◌, ◌++◌, drop}
use Rattle.bud_gen.specs.DelayFiles.{block_cells}
use Rattle.bud_gen.proofs.delays.put_blocks.Given as goal

abbrev pub invariant-loop-block : goal.invariant-loop-block
invariant-loop-block l = l.fn.out.items ++ block_cells l.blocks ≡ l.out.items ++ block_cells (drop l.block-index l.blocks)

use Rattle.std.proofs.Common.{◌≡◌, ◌++◌, drop}
use Rattle.bud_gen.specs.Policies.{block_lines}
use Rattle.bud_gen.proofs.policies.put_blocks.Given as goal

abbrev pub invariant-loop-block : goal.invariant-loop-block
invariant-loop-block l = l.fn.out.items ++ block_lines l.blocks ≡ l.out.items ++ block_lines (drop l.block-index l.blocks)

use Rattle.bud_gen.proofs.BlockLemmas.{blocks_next, sizes_next}
use Rattle.bud_gen.proofs.gates.blocks.Goals as goal

pub loop-k-preserved : goal.loop-k-preserved
loop-k-preserved c = (
  blocks_next c.args.gates c.args.number c.loop-k.k c.loop-k.blocks.items c.push.new.self.items c.in_ok-made_block.field-0 c.loop-k.invariant.0 c.in_ok-made_block.ensures.block c.in_ok-push.ensures.items,
  sizes_next c.loop-k.blocks.items c.push.new.self.items c.in_ok-made_block.field-0 c.loop-k.invariant.1 c.in_ok-made_block.ensures.sizes c.in_ok-push.ensures.items,
)

use Rattle.bud_gen.specs.Gates.{IsBlockBefore}
use Rattle.bud_gen.proofs.gates.made_block.Given as goal

abbrev pub invariant-loop-g : goal.invariant-loop-g
invariant-loop-g l = IsBlockBefore l.number l.low l.g l.draws.state l.list.items l.signals.items

use Rattle.std.proofs.Common.{◌≡◌, ◌≤◌, ◌+◌, ◌*◌, drop}
use Rattle.bud_gen.specs.Gates.{registers}
use Rattle.bud_gen.proofs.gates.registers.Given as goal

abbrev pub invariant-loop-block : goal.invariant-loop-block
invariant-loop-block l = (registers l.blocks ≡ l.count + registers (drop l.block-index l.blocks)) × (l.count ≤ 20000 * l.block-index)

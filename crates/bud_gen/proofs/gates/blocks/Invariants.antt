use Rattle.std.proofs.Common.{◌≡◌, map}
use Rattle.std.specs.Prelude.{All}
use Rattle.std.specs.List.{range_with_len}
use Rattle.bud_gen.specs.Gates.{IsSized, block}
use Rattle.bud_gen.proofs.gates.blocks.Given as goal

abbrev pub invariant-loop-k : goal.invariant-loop-k
invariant-loop-k l = (l.blocks.items ≡ map (block l.gates l.number) (range_with_len 0 l.k)) × All IsSized l.blocks.items

use Rattle.std.proofs.Common.{◌≡◌, ◌++◌, drop}
use Rattle.bud_gen.specs.Netlists.{modules_text}
use Rattle.bud_gen.proofs.netlists.put_modules.Given as goal

abbrev pub invariant-loop-block : goal.invariant-loop-block
invariant-loop-block l = l.fn.out.items ++ modules_text l.blocks ≡ l.out.items ++ modules_text (drop l.block-index l.blocks)

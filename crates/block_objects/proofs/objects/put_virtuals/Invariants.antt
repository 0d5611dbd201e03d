use Rattle.std.proofs.Common.{◌≡◌, ◌++◌, drop, map, decimal}
use Rattle.bud_syntax.specs.declared.constraints.Object.TheVariants.{Clocks}
use Rattle.block_theory.specs.BlockClocks.{prefix}
use Rattle.block_objects.proofs.objects.put_virtuals.Given as goal

abbrev pub invariant-loop-class : goal.invariant-loop-class
invariant-loop-class l =
    l.out.items ++ map (λ k. Clocks (prefix l.names.all.now.clocks ++ decimal k)) (drop l.class-index l.classes) ≡ l.fn.out.items ++ map (λ k. Clocks (prefix l.names.all.now.clocks ++ decimal k)) l.classes

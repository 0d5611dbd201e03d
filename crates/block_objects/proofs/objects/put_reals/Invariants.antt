use Rattle.std.proofs.Common.{◌≡◌, ◌++◌, drop, map}
use Rattle.bud_syntax.specs.declared.constraints.Object.TheVariants.{Clocks}
use Rattle.bud_design.specs.Clocks.{clock_at}
use Rattle.block_objects.proofs.objects.put_reals.Given as goal

abbrev pub invariant-loop-clock : goal.invariant-loop-clock
invariant-loop-clock l =
    l.out.items ++ map (λ c. Clocks (clock_at l.names.all.now.clocks c).name) (drop l.clock-index l.clocks) ≡ l.fn.out.items ++ map (λ c. Clocks (clock_at l.names.all.now.clocks c).name) l.clocks

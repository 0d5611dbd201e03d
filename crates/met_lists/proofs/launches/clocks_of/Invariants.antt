use Rattle.std.proofs.Common.{◌≡◌, ◌++◌, drop, map}
use Rattle.bud_design.specs.declared.clocks.Launch.{Launch}
use Rattle.met_lists.proofs.launches.clocks_of.Given as goal

abbrev pub invariant-loop-launch : goal.invariant-loop-launch
invariant-loop-launch l = map (λ (x : Launch). x.clock) l.launches ≡ l.clocks.items ++ map (λ (x : Launch). x.clock) (drop l.launch-index l.launches)

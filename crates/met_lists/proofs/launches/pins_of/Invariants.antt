use Rattle.std.proofs.Common.{◌≡◌, ◌++◌, drop, map}
use Rattle.bud_design.specs.declared.clocks.Launch.{Launch}
use Rattle.met_lists.proofs.launches.pins_of.Given as goal

abbrev pub invariant-loop-launch : goal.invariant-loop-launch
invariant-loop-launch l = map (λ (x : Launch). x.pin.0) l.launches ≡ l.pins.items ++ map (λ (x : Launch). x.pin.0) (drop l.launch-index l.launches)

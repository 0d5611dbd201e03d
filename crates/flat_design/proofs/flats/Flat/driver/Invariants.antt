use Rattle.std.proofs.Common.{◌≡◌, drop}
use Rattle.bud_design.specs.Designs.{driver_of}
use Rattle.flat_design.proofs.flats.Flat.driver.Given as goal

abbrev pub invariant-loop-wire : goal.invariant-loop-wire
invariant-loop-wire l = driver_of l.self.wires l.pin.0 ≡ driver_of (drop l.wire-index l.self.wires) l.pin.0

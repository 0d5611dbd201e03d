use Rattle.std.proofs.Common.{◌≡◌, ◌++◌, map, take}
use Rattle.elaborations.specs.Elaborations.{wire_at}
use Rattle.design_wires.proofs.gathering.put_wires.Given as goal

abbrev pub invariant-loop-wire : goal.invariant-loop-wire
invariant-loop-wire l = l.into.items ≡ l.initial.into.items ++ map (wire_at l.numbers.places.now l.numbers.pins.now l.home) (take l.wire-index l.wires)

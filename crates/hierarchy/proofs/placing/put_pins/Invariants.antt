use Rattle.std.proofs.Common.{◌≡◌, ◌++◌, take}
use Rattle.std.specs.Prelude.{All, flat_map}
use Rattle.hierarchy.specs.Placing.{port_pins, HasShortBit}
use Rattle.hierarchy.proofs.placing.put_pins.Given as goal

abbrev pub invariant-loop-port : goal.invariant-loop-port
invariant-loop-port l = record {
  put : l.pins.items ≡ l.initial.pins.items ++ flat_map (port_pins l.place) (take l.port-index l.«module».ports);
  short : All HasShortBit l.pins.items;
}

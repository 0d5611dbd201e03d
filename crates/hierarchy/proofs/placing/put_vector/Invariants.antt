use Rattle.std.proofs.Common.{◌≡◌, ◌++◌, Some, map, take}
use Rattle.std.specs.Prelude.{All}
use Rattle.module_nets.specs.Nets.{range_bits}
use Rattle.hierarchy.specs.Placing.{port_pin, HasShortBit}
use Rattle.hierarchy.proofs.placing.put_vector.Given as goal

abbrev pub invariant-loop-steps : goal.invariant-loop-steps
invariant-loop-steps l = record {
  put : l.pins.items ≡ l.initial.pins.items ++ take l.steps (map (port_pin l.place l.port) (range_bits (Some l.range)));
  short : All HasShortBit l.pins.items;
}

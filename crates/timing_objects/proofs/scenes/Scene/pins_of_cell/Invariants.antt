use Rattle.std.proofs.Common.{◌≡◌, ◌++◌, drop, filter}
use Rattle.timing_objects.specs.Objects.{is_meant_by_cell}
use Rattle.timing_objects.specs.PortNames.{numbers}
use Rattle.timing_objects.proofs.scenes.Scene.pins_of_cell.Given as goal

abbrev pub invariant-loop-bit : goal.invariant-loop-bit
invariant-loop-bit l = filter (is_meant_by_cell l.self l.role) (numbers l.bit-items) ≡ numbers l.pins.items ++ filter (is_meant_by_cell l.self l.role) (numbers (drop l.bit-index l.bit-items))

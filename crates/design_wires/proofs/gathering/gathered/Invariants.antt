use Rattle.std.proofs.Common.{◌≡◌, map}
use Rattle.std.specs.Prelude.{flat_map}
use Rattle.std.specs.List.{range_with_len}
use Rattle.elaborations.specs.Elaborations.{wire_at}
use Rattle.design_wires.specs.Gathering.{wires_of}
use Rattle.design_wires.proofs.gathering.gathered.Given as goal

abbrev pub invariant-loop-home : goal.invariant-loop-home
invariant-loop-home l = l.wires.items ≡ flat_map (λ p. map (wire_at l.numbers.places.now l.numbers.pins.now p) (wires_of l.locals l.kinds p)) (range_with_len 0 l.home)

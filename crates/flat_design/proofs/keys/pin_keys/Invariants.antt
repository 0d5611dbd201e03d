use Rattle.flat_design.specs.Keyed.{HavePinKeys}
use Rattle.flat_design.proofs.keys.pin_keys.Given as goal

abbrev pub invariant-loop-pin : goal.invariant-loop-pin
invariant-loop-pin l = HavePinKeys l.keys l.pins l.pin-index l.out.items

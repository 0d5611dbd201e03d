use Rattle.std.proofs.Common.{◌≡◌, ℕ, take}
use Rattle.bud_design.specs.Exceptions.{has_pin}
use Rattle.met_lists.specs.Turns.{has_key}
use Rattle.met_lists.proofs.turns.pin_set.Given as goal

abbrev pub invariant-loop-pin : goal.invariant-loop-pin
invariant-loop-pin l = (v : ℕ) → has_key l.pins.keys v ≡ has_pin (take l.pin-index l.group) v

-- Where the port bits of a place stand among the pins.
use Rattle.std.specs.Prelude.{◌≡◌, ℕ, ◌-◌, ◌≤◌, List, length}
use Rattle.std.specs.List.{range_with_len}
use Rattle.bud_design.specs.declared.designs.Pin.{Pin}
use Rattle.bud_design.specs.Designs.{bits_of}
use Rattle.timing_objects.specs.PortNames.{design_of}

-- the bits of the place are the numbers from the first to below the second
pub record IsSpan (pins : List Pin) (place from to : ℕ) : Type 0 where
  pub ordered : from ≤ to
  pub within : to ≤ length pins
  pub bits : bits_of (design_of pins) place ≡ range_with_len from (to - from)

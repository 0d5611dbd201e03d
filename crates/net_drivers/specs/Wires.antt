-- The wires to port bits, from the pins that drive net bits by number.
use Rattle.std.specs.Prelude.{ℕ, suc, Bool, true, false, List, [], ◌∷◌, ◌++◌, Option, Some, None, slice_index_or}
use Rattle.bud_syntax.specs.declared.modules.Dir.{Dir}
use Rattle.net_drivers.specs.declared.pins.LocalPin.{LocalPin}
use Rattle.net_drivers.specs.declared.pins.LocalWire.{LocalWire}
use Rattle.net_drivers.specs.declared.slots.Joint.{Joint}
use Rattle.net_drivers.specs.Drivers.{local_pin}
use Rattle.net_drivers.specs.Slots.{is_dir}

abbrev pub wire_to : LocalPin → Option LocalPin → List LocalWire
wire_to to None = []
wire_to to (Some from) = record { from = from; to = to } ∷ []

abbrev pub wire_if : Bool → LocalPin → List (Option LocalPin) → Option ℕ → List LocalWire
wire_if false to pins n = []
wire_if true to pins None = []
wire_if true to pins (Some n) = wire_to to (slice_index_or pins n None)

-- the wires to the port bits of a direction
abbrev pub pin_wires : List (Option LocalPin) → Dir → Option ℕ → ℕ → List Joint → List LocalWire
pin_wires pins meant instance k [] = []
pin_wires pins meant instance k (j ∷ js) = wire_if (is_dir meant j.dir) (local_pin instance k) pins j.bit ++ pin_wires pins meant instance (suc k) js

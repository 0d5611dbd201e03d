-- The wires of a module, or what is driven twice.
use Rattle.std.specs.Prelude.{◌≡◌, ℕ, ◌<◌, ◌++◌, List, length, map, filter, Option, Some, None, slice_index_or}
use Rattle.std.specs.List.{flat_map}
use Rattle.std.specs.Option.{option_map}
use Rattle.bud_syntax.specs.declared.modules.Module.{Module}
use Rattle.module_nets.specs.Nets.{NetBit, all_bits, net_bits, port_bits}
use Rattle.net_drivers.specs.declared.covers.Ends.{Ends}
use Rattle.net_drivers.specs.declared.pins.LocalPin.{LocalPin}
use Rattle.net_drivers.specs.declared.pins.LocalWire.{LocalWire}
use Rattle.net_drivers.specs.declared.slots.Slot.{Slot}
use Rattle.net_drivers.specs.Drivers.{Drive, Load, drive, constant, input_drives, instance_drives, assign_drives, twice_driven}
use Rattle.net_drivers.specs.Numbering.{bit_at}
use Rattle.net_drivers.specs.Slots.{IsBelow}
use Rattle.net_drivers.specs.Phases.{IsDriven, Counts}

-- what drives net bits, but for the assigns
abbrev pub pin_drives : List Module → Module → List Drive
pin_drives modules m = input_drives 0 (port_bits m) ++ (flat_map (λ n. map (λ b. drive b constant) (net_bits m n.name)) (filter (λ n. n.constant) m.nets) ++ instance_drives modules m 0 m.instances)

-- all but the assigns drive their bits, and all drives are counted
pub record IsStaged (modules : List Module) (m : Module) (before after : List Slot) (old new : List Ends) : Type 0 where
  pub middle : List Ends
  pub driven : IsDriven (all_bits m) (pin_drives modules m) before after old middle
  pub assigns : Counts (all_bits m) (flat_map (assign_drives m) m.assigns) middle new

-- all but the assigns drive their bits, and the first bit that is driven twice has this number
pub record IsJudged (modules : List Module) (m : Module) (before after : List Slot) (number : Option ℕ) : Type 0 where
  pub old : List Ends
  pub middle : List Ends
  pub driven : IsDriven (all_bits m) (pin_drives modules m) before after old middle
  pub below : IsBelow (length (all_bits m)) number
  pub twice : twice_driven modules m ≡ option_map (bit_at (all_bits m)) number

-- the pins that drive bits by name are those by number
pub record AreDrivers (count : ℕ) (bits : List NetBit) (follow : NetBit → Option LocalPin) (pins : List (Option LocalPin)) : Type 0 where
  pub each : (n : ℕ) → n < count → slice_index_or pins n None ≡ follow (bit_at bits n)

-- the wire to a load
abbrev pub load_wire : (NetBit → Option LocalPin) → Load → Option LocalWire
load_wire follow l = option_map (λ p. record { from = p; to = l.at }) (follow l.bit)

-- What the wiring of a module says.
use Rattle.std.specs.Prelude.{◌≡◌, ◌<◌, List, length, Some, None}
use Rattle.bud_syntax.specs.declared.modules.Module.{Module}
use Rattle.module_nets.specs.Nets.{all_bits}
use Rattle.net_drivers.specs.declared.wirings.Wiring.{Wiring}
use Rattle.net_drivers.specs.declared.wirings.Wiring.TheVariants.{Twice, Wired}
use Rattle.net_drivers.specs.Drivers.{local_wires, twice_driven}
use Rattle.net_drivers.specs.Numbering.{bit_at}

-- the first bit that is driven twice, or all wires where there is none
abbrev pub IsWiring : List Module → Module → Wiring → Type 0
IsWiring modules m (Twice n) = (n < length (all_bits m)) × (twice_driven modules m ≡ Some (bit_at (all_bits m) n))
IsWiring modules m (Wired wires) = (twice_driven modules m ≡ None) × (wires.items ≡ local_wires 4194304 modules m)

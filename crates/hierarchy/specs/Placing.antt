-- Pins of ports, and places of modules.
use Rattle.std.specs.Prelude.{ℕ, ◌+◌, ◌-◌, nat_le, if◌then◌else◌, List, map, Option}
use Rattle.bud_syntax.specs.declared.modules.Port.{Port}
use Rattle.bud_syntax.specs.declared.modules.Module.{Module}
use Rattle.bud_design.specs.declared.designs.Place.{Place}
use Rattle.bud_design.specs.declared.designs.Pin.{Pin}
use Rattle.bud_design.specs.Names.{printed}
use Rattle.bud_design.proofs.NameLaws.{IsShort}
use Rattle.module_nets.specs.Nets.{range_bits}

-- the number so many steps from one bound towards the other
abbrev pub steps_from : ℕ → ℕ → ℕ → ℕ
steps_from left right n = if nat_le left right then left + n else left - n

-- the pin of a bit of a port
abbrev pub port_pin : ℕ → Port → Option ℕ → Pin
port_pin place p b = record { place = place; port = printed p.name; bit = b; dir = p.dir }

-- the pins of a port
abbrev pub port_pins : ℕ → Port → List Pin
port_pins place p = map (port_pin place p) (range_bits p.range)

-- the place of a module
abbrev pub place_of_module : List ℕ → Option ℕ → Module → Place
place_of_module name parent m = record { name = name; «module» = printed m.name; leaf = m.leaf; parent = parent }

abbrev pub HasShortBit : Pin → Type 0
HasShortBit v = IsShort v.bit

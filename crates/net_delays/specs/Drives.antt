-- Pins and the pins that drive them: the way back from a pin over its wires.
use Rattle.std.specs.Prelude.{◌≡◌, ℕ, zero, suc, ◌<◌, List, length, Option, Some, None, slice_index_or}
use Rattle.std.specs.Option.{option_and_then, option_map}
use Rattle.bud_base.specs.declared.ids.PinId.{PinId}
use Rattle.bud_design.specs.Designs.{driver_of}
use Rattle.bud_design.specs.declared.designs.Wire.{Wire}

-- the driver of a pin, in a table by pin
abbrev pub drive_of : List (Option PinId) → ℕ → Option ℕ
drive_of drivers v = option_map (λ u. u.0) (slice_index_or drivers v None)

-- the pin that is found so many wires back
abbrev pub back : (ℕ → Option ℕ) → ℕ → ℕ → Option ℕ
back drive zero v = Some v
back drive (suc k) v = option_and_then (back drive k) (drive v)

-- one or more wires lead from a to b
abbrev pub Leads : (ℕ → Option ℕ) → ℕ → ℕ → Type 0
Leads drive a b = (k : ℕ) × (back drive (suc k) b ≡ Some a)

-- one or more wires lead from a to b, which lies on no ring of wires
pub record AreJoined (drive : ℕ → Option ℕ) (a b : ℕ) : Type 0 where
  pub leads : Leads drive a b
  pub no_ring : Leads drive b b → ⊥

-- the table holds the driver of each of so many pins
pub record AreDrivers (wires : List Wire) (pins : ℕ) (drivers : List (Option PinId)) : Type 0 where
  pub size : length drivers ≡ pins
  pub drives : (v : ℕ) → drive_of drivers v ≡ driver_of wires v

-- the drivers are pins of the table
abbrev pub AreWithin : List (Option PinId) → Type 0
AreWithin drivers = (v u : ℕ) → drive_of drivers v ≡ Some u → u < length drivers

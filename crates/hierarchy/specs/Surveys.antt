-- The wires of the modules that were entered.
use Rattle.std.specs.Prelude.{◌≡◌, ℕ, ◌<◌, ◌⊎◌, Bool, true, false, List, [], length, Some, None, slice_index_or}
use Rattle.bud_syntax.specs.declared.modules.Module.{Module}
use Rattle.bud_design.specs.declared.designs.Place.{Place}
use Rattle.bud_design.specs.Designs.{place_at}
use Rattle.net_drivers.specs.declared.pins.LocalWire.{LocalWire}
use Rattle.net_drivers.specs.Drivers.{local_wires, twice_driven}
use Rattle.module_nets.specs.Tops.{module_at}
use Rattle.elaborations.specs.Elaborations.{module_of}

-- the wires of a plain module that was entered, in which nothing is driven twice, and none of another
abbrev pub HasItsWires : List Module → Module → Bool → List LocalWire → Type 0
HasItsWires modules m true wires = (m.leaf ≡ false) × ((wires ≡ local_wires 4194304 modules m) × (twice_driven modules m ≡ None))
HasItsWires modules m false wires = wires ≡ []

abbrev pub is_known : List Bool → ℕ → Bool
is_known known n = slice_index_or known n false

pub record AreWiresKnown (modules : List Module) (known : List Bool) (wires : List (List LocalWire)) : Type 0 where
  pub known_size : length known ≡ length modules
  pub wires_size : length wires ≡ length modules
  pub each : (n : ℕ) → n < length modules → HasItsWires modules (module_at modules n) (is_known known n) (slice_index_or wires n [])

-- the place is one of the module of this number, which is a cell or was entered
pub record IsKind (modules : List Module) (known : List Bool) (place : Place) (kind : ℕ) : Type 0 where
  pub below : kind < length modules
  pub called : module_of modules place ≡ Some (module_at modules kind)
  pub entered : ((module_at modules kind).leaf ≡ true) ⊎ (is_known known kind ≡ true)

-- the number of the module of each place
pub record AreKinds (modules : List Module) (known : List Bool) (places : List Place) (kinds : List ℕ) : Type 0 where
  pub size : length kinds ≡ length places
  pub each : (p : ℕ) → p < length places → IsKind modules known (place_at places p) (slice_index_or kinds p 0)

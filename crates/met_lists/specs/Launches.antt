-- Launches by their pins and by their clocks.
use Rattle.std.specs.Prelude.{◌≡◌, ℕ, List, map, length}
use Rattle.bud_design.specs.declared.clocks.Launch.{Launch}
use Rattle.name_tables.specs.Chained.{key_at, AreChained}
use Rattle.met_lists.specs.declared.launches.Keyed.{Keyed}
use Rattle.met_lists.specs.declared.launches.LaunchTable.{LaunchTable}

-- the numbers are found by their keys
abbrev pub AreFound : Keyed → Type 0
AreFound k = AreChained (key_at k.keys.items) 0 (length k.keys.items) k.chains

pub record IsKeyed (keys : List ℕ) (k : Keyed) : Type 0 where
  pub keys_are : k.keys.items ≡ keys
  pub found : AreFound k

-- launches are found by their pins and by their clocks
pub record AreTabled (t : LaunchTable) : Type 0 where
  pub count : length t.clocks.keys.items ≡ length t.pins.keys.items
  pub by_pin : AreFound t.pins
  pub by_clock : AreFound t.clocks

pub record IsLaunchTable (launches : List Launch) (t : LaunchTable) : Type 0 where
  pub pins : t.pins.keys.items ≡ map (λ l. l.pin.0) launches
  pub clocks : t.clocks.keys.items ≡ map (λ l. l.clock) launches
  pub tabled : AreTabled t

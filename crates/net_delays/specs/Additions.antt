-- Sums over the trees of wires, pin by pin.
use Rattle.std.specs.Prelude.{◌≡◌, ℕ, ◌<◌, List, length, Option}
use Rattle.bud_base.specs.declared.ids.PinId.{PinId}
use Rattle.net_delays.specs.Drives.{drive_of, AreWithin}
use Rattle.net_delays.specs.Forests.{IsForest}
use Rattle.net_delays.specs.declared.forests.Mark.{Mark}

-- the order lists the pins below others, each behind those that lead to it
pub record IsListing (drivers : List (Option PinId)) (order : List PinId) : Type 0 where
  pub within : AreWithin drivers
  pub few : length drivers < 4294967296
  pub marks : List Mark
  pub forest : IsForest drivers marks order

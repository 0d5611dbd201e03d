-- The trees of all wires of a flat design.
use Rattle.std.specs.Prelude.{◌≡◌, ℕ, ◌<◌, ◌≤◌, ◌⊎◌, ◌^◌, List, length, Option}
use Rattle.bud_base.specs.declared.ids.PinId.{PinId}
use Rattle.net_delays.specs.Drives.{drive_of, Leads, AreWithin}
use Rattle.net_delays.specs.Forests.{mark_at, spot_at, IsSettled, IsForest}
use Rattle.net_delays.specs.declared.forests.Mark.{Mark}

pub record Forest : Type 0 where
  pub drivers : List (Option PinId)
  pub marks : List Mark
  pub order : List PinId

-- the driver of a pin
abbrev pub drive : Forest → ℕ → Option ℕ
drive forest = drive_of forest.drivers

abbrev pub pin_count : Forest → ℕ
pin_count forest = length forest.drivers

pub record IsSoundForest (forest : Forest) : Type 0 where
  pub few : length forest.drivers < 2 ^ 32
  pub within : AreWithin forest.drivers
  pub grown : IsForest forest.drivers forest.marks forest.order

-- the pin that leads to v, is this deep and stands for the others that do
pub record IsPinAbove (forest : Forest) (v depth a : ℕ) : Type 0 where
  pub leads : Leads (drive forest) a v
  pub only : (b : ℕ) → Leads (drive forest) b v → (spot_at forest.marks b).depth ≡ depth → (spot_at forest.marks b).head.0 ≡ a

-- Trees of wires: each pin below the pin that drives it, and the rings of wires at their tops.
use Rattle.std.specs.Prelude.{◌≡◌, ℕ, suc, ◌+◌, ◌<◌, ◌≤◌, ◌⊎◌, Bool, true, false, List, length, Option, Some, None, All, AllPairs, Contains, slice_index_or}
use Rattle.bud_base.specs.declared.ids.PinId.{PinId}
use Rattle.net_delays.specs.Drives.{drive_of, Leads}
use Rattle.net_delays.specs.declared.forests.Mark.{Mark}
use Rattle.net_delays.specs.declared.forests.Mark.TheVariants.{New, Open, Settled}
use Rattle.net_delays.specs.declared.forests.Spot.{Spot}

abbrev pub mark_at : List Mark → ℕ → Mark
mark_at marks v = slice_index_or marks v New

abbrev pub IsSettled : Mark → Type 0
IsSettled New = ⊥
IsSettled (Open k) = ⊥
IsSettled (Settled spot) = Unit {0}

abbrev pub is_new : Mark → Bool
is_new New = true
is_new (Open k) = false
is_new (Settled spot) = false

-- where a settled pin stands
abbrev pub spot_of : Mark → Spot
spot_of New = record { head = record { 0 = 0 }; parent = record { 0 = 0 }; jump = record { 0 = 0 }; depth = 0 }
spot_of (Open k) = record { head = record { 0 = 0 }; parent = record { 0 = 0 }; jump = record { 0 = 0 }; depth = 0 }
spot_of (Settled spot) = spot

abbrev pub spot_at : List Mark → ℕ → Spot
spot_at marks v = spot_of (mark_at marks v)

-- a is above v, nearer to the top of its tree, and stands for its ring if it lies on one
pub record IsAbove (drive : ℕ → Option ℕ) (marks : List Mark) (v depth a : ℕ) : Type 0 where
  pub settled : IsSettled (mark_at marks a)
  pub leads : Leads drive a v
  pub higher : (spot_at marks a).depth < depth
  pub stands : (spot_at marks a).head.0 ≡ a

-- v lies on a ring of wires, which the pin `head` stands for, behind the pin whose spot is `over`
pub record IsOnRing (drive : ℕ → Option ℕ) (v : ℕ) (spot over : Spot) : Type 0 where
  pub depth : spot.depth ≡ 0
  pub jump : spot.jump.0 ≡ spot.head.0
  pub same : over.head.0 ≡ spot.head.0
  pub flat : over.depth ≡ 0
  pub round : Leads drive spot.head.0 v
  pub back : Leads drive v spot.head.0

-- v is below the pin whose spot is `over`
pub record IsBelow (drive : ℕ → Option ℕ) (marks : List Mark) (v : ℕ) (spot over : Spot) : Type 0 where
  pub depth : spot.depth ≡ suc over.depth
  pub head : spot.head.0 ≡ v
  pub no_ring : Leads drive v v → ⊥
  pub parent : IsAbove drive marks v spot.depth spot.parent.0
  pub next : suc (spot_at marks spot.parent.0).depth ≡ spot.depth
  pub jump : IsAbove drive marks v spot.depth spot.jump.0

-- what a settled pin's spot says, where the pin has this driver
abbrev pub IsPlaced : (ℕ → Option ℕ) → List Mark → ℕ → Spot → Option ℕ → Type 0
IsPlaced drive marks v spot None = (spot.depth ≡ 0) × (spot.head.0 ≡ v) × (spot.jump.0 ≡ v)
IsPlaced drive marks v spot (Some u) = IsSettled (mark_at marks u) × (IsOnRing drive v spot (spot_at marks u) ⊎ IsBelow drive marks v spot (spot_at marks u))

abbrev pub ArePlaced : (ℕ → Option ℕ) → List Mark → Type 0
ArePlaced drive marks = (v : ℕ) → IsSettled (mark_at marks v) → IsPlaced drive marks v (spot_at marks v) (drive v)

-- the pin v doesn't lead to u
pub record IsApart (drive : ℕ → Option ℕ) (u v : PinId) : Type 0 where
  pub other : u.0 ≡ v.0 → ⊥
  pub free : Leads drive v.0 u.0 → ⊥

pub record IsLowPin (marks : List Mark) (v : PinId) : Type 0 where
  pub settled : IsSettled (mark_at marks v.0)
  pub low : 0 < (spot_at marks v.0).depth

-- the settled pins below others, none before a pin that leads to it
pub record AreListed (drive : ℕ → Option ℕ) (marks : List Mark) (order : List PinId) : Type 0 where
  pub all : (v : ℕ) → IsSettled (mark_at marks v) → 0 < (spot_at marks v).depth → Contains order (record { 0 = v })
  pub low : All (IsLowPin marks) order
  pub apart : AllPairs (IsApart drive) order
  pub shallow : (v : ℕ) → IsSettled (mark_at marks v) → (spot_at marks v).depth ≤ length order

pub record AreSettled (drive : ℕ → Option ℕ) (marks : List Mark) (order : List PinId) : Type 0 where
  pub placed : ArePlaced drive marks
  pub listed : AreListed drive marks order

-- the trees of all pins
pub record IsForest (drivers : List (Option PinId)) (marks : List Mark) (order : List PinId) : Type 0 where
  pub size : length marks ≡ length drivers
  pub whole : (v : ℕ) → v < length drivers → IsSettled (mark_at marks v)
  pub settled : AreSettled (drive_of drivers) marks order

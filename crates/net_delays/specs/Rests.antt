-- What is left of delays along several wires for the last wire, by the sums over the trees of wires.
use Rattle.std.specs.Prelude.{◌≡◌, ℕ, ◌<◌, ℤ, pos, ◌-ℤ◌, int_lt, Bool, true, false, List, length, Option, Some, None, slice_index_or, nat_lt, if◌then◌else◌}
use Rattle.bud_base.specs.declared.ids.PinId.{PinId}
use Rattle.bud_design.specs.declared.designs.Wire.{Wire}
use Rattle.net_delays.specs.Alongs.{along_at, sum_of, reach}
use Rattle.net_delays.specs.declared.alongs.Along.{Along}

abbrev pub wire_at : List Wire → ℕ → Wire
wire_at wires k = slice_index_or wires k (record { from = record { 0 = 0 }; to = record { 0 = 0 }; home = 0 })

-- the ends of a wire are pins
pub record IsWireWithin (pins : ℕ) (w : Wire) : Type 0 where
  pub from : w.from.0 < pins
  pub to : w.to.0 < pins

-- a wire's delay is what its last pin's sum is more than its first pin's
abbrev pub step_of : (ℕ → ℤ) → Wire → ℤ
step_of sums w = sums w.to.0 -ℤ sums w.from.0

pub record AreSteps (sums : ℕ → ℤ) (wires : List Wire) (delays : List ℤ) : Type 0 where
  pub size : length delays ≡ length wires
  pub each : (k : ℕ) → k < length wires → sum_of delays k ≡ step_of sums (wire_at wires k)

-- a delay reaches less than what its last wire begins with
abbrev pub is_negative_by : (ℕ → ℤ) → Along → Option ℕ → Bool
is_negative_by sums x None = false
is_negative_by sums x (Some u) = int_lt (reach sums x) (sums u)

abbrev pub is_negative : (ℕ → Option ℕ) → (ℕ → ℤ) → Along → Bool
is_negative drive sums x = is_negative_by sums x (drive x.to.0)

-- one of the first so many delays is such, and ends at the pin
pub record IsNegativeAt (drive : ℕ → Option ℕ) (sums : ℕ → ℤ) (alongs : List Along) (count v : ℕ) : Type 0 where
  pub place : ℕ
  pub before : place < count
  pub ends : (along_at alongs place).to.0 ≡ v
  pub negative : is_negative drive sums (along_at alongs place) ≡ true

-- the least pin that one of the first so many delays ends at, of which less than 0 is left
abbrev pub IsLeastNegative : (ℕ → Option ℕ) → (ℕ → ℤ) → List Along → ℕ → Option PinId → Type 0
IsLeastNegative drive sums alongs count None = (k : ℕ) → k < count → is_negative drive sums (along_at alongs k) ≡ false
IsLeastNegative drive sums alongs count (Some v) =
    IsNegativeAt drive sums alongs count v.0 × ((k : ℕ) → k < count → (along_at alongs k).to.0 < v.0 → is_negative drive sums (along_at alongs k) ≡ false)

abbrev pub lesser_pin : Option PinId → PinId → PinId
lesser_pin None v = v
lesser_pin (Some u) v = if nat_lt u.0 v.0 then u else v

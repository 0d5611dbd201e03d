-- The wires that leave a pin.
use Rattle.std.specs.Prelude.{◌≡◌, ◌==◌, ℕ, ◌+◌, ◌<◌, ◌≤◌, List, length, drop, slice_index_or, Option, None}
use Rattle.std.specs.List.{position_from}
use Rattle.bud_design.specs.declared.designs.Wire.{Wire}
use Rattle.clock_reach.specs.FanoutLists.{FanoutLists}

abbrev pub wire_at : List Wire → ℕ → Wire
wire_at wires i = slice_index_or wires i (record { from = record { 0 = 0 }; to = record { 0 = 0 }; home = 0 })

-- the first wire from number `low` on that leaves the pin
abbrev pub leaving_from : List Wire → ℕ → ℕ → Option ℕ
leaving_from wires pin low = position_from (λ w. w.from.0 == pin) low (drop low wires)

-- the wire leaves a pin below this number
abbrev pub LeavesBelow : ℕ → Wire → Type 0
LeavesBelow pins w = w.from.0 < pins

-- the fanout is that of the wires: the first of each pin, and after each wire the next of its pin
abbrev pub FollowsIn : List Wire → FanoutLists → ℕ → Type 0
FollowsIn wires fanout i = slice_index_or fanout.next i None ≡ leaving_from wires (wire_at wires i).from.0 (i + 1)

pub record AreFanout (wires : List Wire) (fanout : FanoutLists) : Type 0 where
  pub room : length wires ≤ length fanout.next
  pub first : (pin : ℕ) → pin < length fanout.first → slice_index_or fanout.first pin None ≡ leaving_from wires pin 0
  pub next : (i : ℕ) → i < length wires → FollowsIn wires fanout i

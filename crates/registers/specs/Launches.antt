-- Launch edges by the marks of pins.
use Rattle.std.specs.Prelude.{◌≡◌, ℕ, ◌<◌, Bool, true, false, List, length, Option, Some, None, All, AllPairs, Contains, if◌then◌else◌}
use Rattle.std.specs.Option.{option_map}
use Rattle.bud_syntax.specs.declared.edges.Edge.{Edge}
use Rattle.bud_design.specs.declared.timings.LaunchEdge.{LaunchEdge}
use Rattle.bud_design.specs.Orders.{edge_pin_before}
use Rattle.registers.specs.Marks.{mark_at, set_at, or_else_set, only_edge}
use Rattle.registers.specs.declared.register_marks.RegisterMarks.{RegisterMarks}

-- the one launch edge of a clock pin
abbrev pub marked_edge : RegisterMarks → ℕ → Option Edge
marked_edge m v = only_edge (or_else_set (set_at m.named.items v) (set_at m.edges.items v))

abbrev pub launch_by : Bool → ℕ → Option Edge → Option LaunchEdge
launch_by clock v edge = if clock then option_map (λ e. record { pin = record { 0 = v }; edge = e }) edge else None

abbrev pub marked_launch : RegisterMarks → ℕ → Option LaunchEdge
marked_launch m v = launch_by (mark_at m.clocks.items v) v (marked_edge m v)

pub record IsListedLaunch (m : RegisterMarks) (count : ℕ) (x : LaunchEdge) : Type 0 where
  pub is : marked_launch m x.pin.0 ≡ Some x
  pub below : x.pin.0 < count

-- the launch edges of the pins below a number
pub record AreLaunches (m : RegisterMarks) (count : ℕ) (edges : List LaunchEdge) : Type 0 where
  pub rising : AllPairs (λ x y. edge_pin_before x y ≡ true) edges
  pub sound : All (IsListedLaunch m count) edges
  pub complete : (x : LaunchEdge) → x.pin.0 < count → marked_launch m x.pin.0 ≡ Some x → Contains edges x

-- the marks have room for so many pins
pub record HasPinRoom (m : RegisterMarks) (pins : ℕ) : Type 0 where
  pub clocks : length m.clocks.items ≡ pins
  pub checked : length m.checked.items ≡ pins
  pub named : length m.named.items ≡ pins
  pub edges : length m.edges.items ≡ pins

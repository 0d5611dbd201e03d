-- Registers: clock pins, data pins, launch edges and setup checks, and the delays of cell and launch arcs.
use Rattle.std.specs.Prelude.{◌≡◌, ℕ, ◌<◌, ◌==◌, ◌&&◌, ◌||◌, not, ℤ, Bool, true, false, List, [], ◌∷◌, map, length, filter, flat_map, Option, Some, None, if◌then◌else◌}
use Rattle.std.specs.List.{list_any, list_all, range_with_len}
use Rattle.std.specs.Option.{option_or}
use Rattle.bud_syntax.specs.declared.edges.Edge.{Edge}
use Rattle.bud_syntax.specs.declared.edges.Edge.TheVariants.{Rise, Fall}
use Rattle.bud_design.specs.declared.timings.Pair.{Pair}
use Rattle.bud_design.specs.declared.timings.Check.{Check}
use Rattle.bud_design.specs.declared.timings.LaunchEdge.{LaunchEdge}
use Rattle.bud_design.specs.Designs.{Design, pin_at, bits_of}
use Rattle.bud_design.specs.Lists.{Lists, first_some, greatest}
use Rattle.bud_design.specs.Orders.{same_edge, pins_before}
use Rattle.registers.specs.declared.entries.Through.{Through}
use Rattle.registers.specs.declared.entries.Setup.{Setup}
use Rattle.registers.specs.declared.faults.RegisterFault.{RegisterFault}
use Rattle.registers.specs.declared.faults.RegisterFault.TheVariants.{MixedEdge, Latch}

abbrev pub pin_place : Design → ℕ → ℕ
pin_place d v = (pin_at d.pins v).place

-- a register is a leaf with a setup check
abbrev pub is_register : Design → List Setup → ℕ → Bool
is_register d setups p = list_any (λ s. pin_place d s.clock.0 == p) setups

-- a clock pin is the clock of a check; a data pin is checked and is no clock pin
abbrev pub is_clock_pin : List Setup → ℕ → Bool
is_clock_pin setups v = list_any (λ s. s.clock.0 == v) setups

abbrev pub is_data_pin : List Setup → ℕ → Bool
is_data_pin setups v = list_any (λ s. s.pin.0 == v) setups && not (is_clock_pin setups v)

-- the edges that an entry counts for: both where it names none
abbrev pub both_or : Option Edge → List Edge
both_or None = Rise ∷ Fall ∷ []
both_or (Some edge) = edge ∷ []

abbrev pub named_edge : Option Edge → List Edge
named_edge None = []
named_edge (Some edge) = edge ∷ []

-- the edges that the delays from a clock pin name, or where none names one those of its checks
abbrev pub or_else_edges : List Edge → List Edge → List Edge
or_else_edges [] others = others
or_else_edges (e ∷ es) others = e ∷ es

abbrev pub named_edges : List Through → ℕ → List Edge
named_edges throughs v = flat_map (λ t. named_edge t.edge) (filter (λ t. t.from.0 == v) throughs)

abbrev pub check_edges : List Setup → ℕ → List Edge
check_edges setups v = flat_map (λ s. both_or s.edge) (filter (λ s. s.clock.0 == v) setups)

abbrev pub edges_at : List Through → List Setup → ℕ → List Edge
edges_at throughs setups v = or_else_edges (named_edges throughs v) (check_edges setups v)

-- the one edge among these
abbrev pub one_edge : List Edge → Option Edge
one_edge [] = None
one_edge (e ∷ es) = if list_all (same_edge e) es then Some e else None

abbrev pub launch_edge : List Through → List Setup → ℕ → Option Edge
launch_edge throughs setups v = one_edge (edges_at throughs setups v)

-- the clock pins and their launch edges
pub record IsLaunchEdge (throughs : List Through) (setups : List Setup) (x : LaunchEdge) : Type 0 where
  pub clock_pin : is_clock_pin setups x.pin.0 ≡ true
  pub edge : launch_edge throughs setups x.pin.0 ≡ Some x.edge

-- a setup check at a data pin: the amount is the greatest of its entries for the edge
abbrev pub has_edge : Edge → List Edge → Bool
has_edge edge edges = list_any (same_edge edge) edges

abbrev pub amounts : List Setup → ℕ → ℕ → Edge → List ℤ
amounts setups v clock edge = map (λ s. s.value) (filter (λ s. s.pin.0 == v && (s.clock.0 == clock && has_edge edge (both_or s.edge))) setups)

pub record IsCheck (setups : List Setup) (x : Check) : Type 0 where
  pub data_pin : is_data_pin setups x.pin.0 ≡ true
  pub amount : greatest (amounts setups x.pin.0 x.clock.0 x.edge) ≡ Some x.amount

-- a delay of a register counts only where it leaves a clock pin
abbrev pub is_counted : Design → List Setup → ℕ → Bool
is_counted d setups v = not (is_register d setups (pin_place d v)) || is_clock_pin setups v

abbrev pub values : List Through → ℕ → ℕ → List ℤ
values throughs a b = map (λ t. t.value) (filter (λ t. t.from.0 == a && t.to.0 == b) throughs)

-- the pair of a cell or launch arc: its value is the greatest of its entries
pub record IsPair (d : Design) (throughs : List Through) (setups : List Setup) (x : Pair) : Type 0 where
  pub counted : is_counted d setups x.from.0 ≡ true
  pub value : greatest (values throughs x.from.0 x.to.0) ≡ Some x.value
  pub launch : x.launch ≡ is_register d setups (pin_place d x.from.0)

-- a pair of a register's pins that no arc stands for
pub record IsLeftOut (d : Design) (throughs : List Through) (setups : List Setup) (x : ℕ × ℕ) : Type 0 where
  pub uncounted : is_counted d setups x.0 ≡ false
  pub some : (value : ℤ) × (greatest (values throughs x.0 x.1) ≡ Some value)

-- so many pairs of pins are left out
pub record IsLeftOutCount (d : Design) (throughs : List Through) (setups : List Setup) (count : ℕ) : Type 0 where
  pub pairs : List (ℕ × ℕ)
  pub all : Lists (λ x y. pins_before x.0 x.1 y.0 y.1) (IsLeftOut d throughs setups) pairs
  pub count_is : count ≡ length pairs

-- the refusals of a register: a clock pin without one launch edge, then a delay that leaves a data pin
abbrev pub unless_one : ℕ → Option Edge → Option RegisterFault
unless_one v None = Some (MixedEdge (record { 0 = v }))
unless_one v (Some edge) = None

abbrev pub mixed_edge : List Through → List Setup → ℕ → Option RegisterFault
mixed_edge throughs setups v = if is_clock_pin setups v then unless_one v (launch_edge throughs setups v) else None

abbrev pub is_latch : Design → List Through → List Setup → ℕ → Bool
is_latch d throughs setups p = list_any (λ t. pin_place d t.from.0 == p && is_data_pin setups t.from.0) throughs

abbrev pub latch : Design → List Through → List Setup → ℕ → Option RegisterFault
latch d throughs setups p = if is_latch d throughs setups p then Some (Latch p) else None

abbrev pub register_fault : Design → List Through → List Setup → Option RegisterFault
register_fault d throughs setups =
    first_some (λ p. option_or (first_some (mixed_edge throughs setups) (bits_of d p)) (latch d throughs setups p)) (range_with_len 0 (length d.places))

-- The orders in which pins, edges, pairs, checks, launches and captures stand.
use Rattle.std.specs.Prelude.{ℕ, ◌==◌, ◌&&◌, ◌||◌, nat_lt, Bool, true, false, int_lt}
use Rattle.bud_syntax.specs.declared.edges.Edge.{Edge}
use Rattle.bud_syntax.specs.declared.edges.Edge.TheVariants.{Rise, Fall}
use Rattle.bud_design.specs.declared.timings.Pair.{Pair}
use Rattle.bud_design.specs.declared.timings.Check.{Check}
use Rattle.bud_design.specs.declared.timings.LaunchEdge.{LaunchEdge}
use Rattle.bud_design.specs.declared.clocks.Launch.{Launch}
use Rattle.bud_design.specs.declared.clocks.Capture.{Capture}

abbrev pub same_edge : Edge → Edge → Bool
same_edge Rise Rise = true
same_edge Rise Fall = false
same_edge Fall Rise = false
same_edge Fall Fall = true

-- the orders of pairs of pins, of checks and of launch edges
abbrev pub pins_before : ℕ → ℕ → ℕ → ℕ → Bool
pins_before a b c d = nat_lt a c || (a == c && nat_lt b d)

abbrev pub edge_before : Edge → Edge → Bool
edge_before Rise Rise = false
edge_before Rise Fall = true
edge_before Fall Rise = false
edge_before Fall Fall = false

abbrev pub pair_before : Pair → Pair → Bool
pair_before x y = pins_before x.from.0 x.to.0 y.from.0 y.to.0

abbrev pub check_before : Check → Check → Bool
check_before x y = pins_before x.pin.0 x.clock.0 y.pin.0 y.clock.0 || (x.pin.0 == y.pin.0 && (x.clock.0 == y.clock.0 && edge_before x.edge y.edge))

abbrev pub edge_pin_before : LaunchEdge → LaunchEdge → Bool
edge_pin_before x y = nat_lt x.pin.0 y.pin.0

-- launches and captures stand by pin, clock and edge, rise before fall: port bits have lower numbers than the pins below
abbrev pub stands_before : ℕ → ℕ → Edge → ℕ → ℕ → Edge → Bool
stands_before v c edge w k at = nat_lt v w || (v == w && (nat_lt c k || (c == k && edge_before edge at)))

abbrev pub launch_before : Launch → Launch → Bool
launch_before l m = stands_before l.pin.0 l.clock l.edge m.pin.0 m.clock m.edge

abbrev pub capture_before : Capture → Capture → Bool
capture_before x y =
    stands_before x.pin.0 x.clock x.edge y.pin.0 y.clock y.edge
    || (x.pin.0 == y.pin.0 && (x.clock == y.clock && (same_edge x.edge y.edge && int_lt x.amount y.amount)))

-- Tables in order are the only ones: launches, captures, pins without a clock, pairs, checks, launch edges, pairs of pins, arcs.
use Rattle.std.specs.Prelude.{◌≡◌, ℕ, nat_lt, List}
use Rattle.std.proofs.Common.{◌∙◌, ap}
use Rattle.bud_base.specs.declared.ids.PinId.{PinId}
use Rattle.bud_design.specs.declared.clocks.Launch.{Launch}
use Rattle.bud_design.specs.declared.clocks.Capture.{Capture}
use Rattle.bud_design.specs.declared.clocks.Constraints.{Constraints}
use Rattle.bud_design.specs.declared.timings.Pair.{Pair}
use Rattle.bud_design.specs.declared.timings.Check.{Check}
use Rattle.bud_design.specs.declared.timings.LaunchEdge.{LaunchEdge}
use Rattle.bud_design.specs.declared.timings.Timing.{Timing}
use Rattle.bud_design.specs.Arcs.{Arc, arc_before}
use Rattle.bud_design.specs.Lists.{Lists}
use Rattle.bud_design.specs.Orders.{pins_before, pair_before, check_before, edge_pin_before, launch_before, capture_before}
use Rattle.bud_design.proofs.TableLaws.{table-same}
use Rattle.bud_design.proofs.StrictOrders.{arc_before-never, arc_before-trans, pins_before-never, pins_before-trans, pair_before-never, pair_before-trans, check_before-never, check_before-trans, edge_pin_before-never, edge_pin_before-trans, launch_before-never, launch_before-trans, capture_before-never, capture_before-trans, number_before-never, number_before-trans}

pub launches-same : (P : Launch → Type 0) (xs ys : List Launch) → Lists launch_before P xs → Lists launch_before P ys → xs ≡ ys
launches-same = table-same launch_before launch_before-never launch_before-trans

pub captures-same : (P : Capture → Type 0) (xs ys : List Capture) → Lists capture_before P xs → Lists capture_before P ys → xs ≡ ys
captures-same = table-same capture_before capture_before-never capture_before-trans

pub pins-same : (P : PinId → Type 0) (xs ys : List PinId) → Lists (λ v w. nat_lt v.0 w.0) P xs → Lists (λ v w. nat_lt v.0 w.0) P ys → xs ≡ ys
pins-same = table-same (λ v w. nat_lt v.0 w.0) (λ v. number_before-never v.0) (λ u v w first second. number_before-trans u.0 v.0 w.0 first second)

pub pairs-same : (P : Pair → Type 0) (xs ys : List Pair) → Lists pair_before P xs → Lists pair_before P ys → xs ≡ ys
pairs-same = table-same pair_before pair_before-never pair_before-trans

pub checks-same : (P : Check → Type 0) (xs ys : List Check) → Lists check_before P xs → Lists check_before P ys → xs ≡ ys
checks-same = table-same check_before check_before-never check_before-trans

pub edges-same : (P : LaunchEdge → Type 0) (xs ys : List LaunchEdge) → Lists edge_pin_before P xs → Lists edge_pin_before P ys → xs ≡ ys
edges-same = table-same edge_pin_before edge_pin_before-never edge_pin_before-trans

pub pin_pairs-same : (P : ℕ × ℕ → Type 0) (xs ys : List (ℕ × ℕ)) → Lists (λ x y. pins_before x.0 x.1 y.0 y.1) P xs → Lists (λ x y. pins_before x.0 x.1 y.0 y.1) P ys → xs ≡ ys
pin_pairs-same =
    table-same (λ x y. pins_before x.0 x.1 y.0 y.1) (λ x. pins_before-never x.0 x.1) (λ x y z first second. pins_before-trans x.0 x.1 y.0 y.1 z.0 z.1 first second)

pub arcs-same : (P : Arc → Type 0) (xs ys : List Arc) → Lists arc_before P xs → Lists arc_before P ys → xs ≡ ys
arcs-same = table-same arc_before arc_before-never arc_before-trans

-- constraints and timings of the same parts are the same
pub Constraints-same : (a b : Constraints) → a.clocks ≡ b.clocks → a.launches ≡ b.launches → a.captures ≡ b.captures → a.exceptions ≡ b.exceptions → a.unclocked ≡ b.unclocked → a ≡ b
Constraints-same a b clocks launches captures exceptions unclocked =
    ap (λ xs. record a { clocks = xs }) clocks
    ∙ (ap (λ xs. record a { clocks = b.clocks; launches = xs }) launches
    ∙ (ap (λ xs. record a { clocks = b.clocks; launches = b.launches; captures = xs }) captures
    ∙ (ap (λ xs. record a { clocks = b.clocks; launches = b.launches; captures = b.captures; exceptions = xs }) exceptions
    ∙ ap (λ xs. record b { unclocked = xs }) unclocked)))

pub Timing-same : (a b : Timing) → a.wires ≡ b.wires → a.pairs ≡ b.pairs → a.checks ≡ b.checks → a.edges ≡ b.edges → a.left_out ≡ b.left_out → a ≡ b
Timing-same a b wires pairs checks edges left_out =
    ap (λ xs. record a { wires = xs }) wires
    ∙ (ap (λ xs. record a { wires = b.wires; pairs = xs }) pairs
    ∙ (ap (λ xs. record a { wires = b.wires; pairs = b.pairs; checks = xs }) checks
    ∙ (ap (λ xs. record a { wires = b.wires; pairs = b.pairs; checks = b.checks; edges = xs }) edges
    ∙ ap (λ n. record b { left_out = n }) left_out)))

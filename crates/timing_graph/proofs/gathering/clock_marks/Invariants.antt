use Rattle.std.proofs.Common.{◌≡◌, ℕ, ◌<◌, ◌||◌, ◌==◌, false, length, get_or, drop}
use Rattle.std.specs.List.{list_any}
use Rattle.bud_design.specs.Arcs.{is_clocked}
use Rattle.timing_graph.proofs.gathering.clock_marks.Given as goal

abbrev pub invariant-loop-edge : goal.invariant-loop-edge
invariant-loop-edge l =
    (length l.marks.items ≡ l.fn.pins)
    × ((v : ℕ) → v < l.fn.pins → get_or l.marks.items v false || list_any (λ x. x.pin.0 == v) (drop l.edge-index l.timing.edges) ≡ is_clocked l.timing v)

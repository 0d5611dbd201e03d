use Rattle.std.proofs.Common.{◌≡◌, length}
use Rattle.timing_graph.specs.Rings.{AreSeen}
use Rattle.timing_graph.proofs.rings.own_part.Given as goal

abbrev pub invariant-loop-place : goal.invariant-loop-place
invariant-loop-place l = (length l.seen.items ≡ l.fn.nodes) × AreSeen l.items l.ring l.place l.seen.items

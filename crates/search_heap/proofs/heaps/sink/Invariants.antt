use Rattle.std.proofs.Common.{◌≤◌, ◌-◌}
use Rattle.search_heap.specs.Heaps.{far, IsFarEnough}
use Rattle.search_heap.proofs.Sifting.{IsSifted}
use Rattle.search_heap.proofs.heaps.sink.Given as goal

abbrev pub invariant-levels : goal.invariant-levels
invariant-levels l = IsSifted l.fn.offers l.fn.places l.offers l.places l.count l.place × IsFarEnough (far l.offers) l.place × (l.place ≤ l.count)

abbrev pub decreases-levels : goal.decreases-levels
decreases-levels l = l.count - l.place

use Rattle.search_heap.specs.Clearing.{AreCleared}
use Rattle.search_heap.specs.Heaps.{near_at}
use Rattle.search_heap.proofs.searches.clear_waiting.Given as goal

abbrev pub invariant-loop-place : goal.invariant-loop-place
invariant-loop-place l = AreCleared l.fn.entries l.entries (λ k. (near_at l.offers k).node.0) l.place

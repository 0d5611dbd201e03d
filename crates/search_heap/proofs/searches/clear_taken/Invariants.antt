use Rattle.search_heap.specs.Clearing.{AreCleared}
use Rattle.search_heap.specs.Searches.{node_at}
use Rattle.search_heap.proofs.searches.clear_taken.Given as goal

abbrev pub invariant-loop-place : goal.invariant-loop-place
invariant-loop-place l = AreCleared l.fn.entries l.entries (node_at l.order) l.place

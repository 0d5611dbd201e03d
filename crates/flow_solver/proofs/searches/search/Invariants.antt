use Rattle.flow_solver.specs.Searches.{IsSearching}
use Rattle.flow_solver.specs.Spreading.{entries_of}
use Rattle.flow_solver.proofs.Taking.{free_count}
use Rattle.flow_solver.proofs.searches.search.Given as goal

abbrev pub invariant-nodes : goal.invariant-nodes
invariant-nodes g l = IsSearching l.net (entries_of l.front.entries) l.front

abbrev pub decreases-nodes : goal.decreases-nodes
decreases-nodes g l = free_count (entries_of l.front.entries)

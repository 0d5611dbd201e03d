use Rattle.std.proofs.Common.{◌≡◌, ◌≤◌, ◌-◌, [], map, replicate}
use Rattle.arc_lists.specs.Insides.{items_of}
use Rattle.arc_lists.proofs.lists.ArcLists.new.Given as goal

abbrev pub invariant-nodes : goal.invariant-nodes
invariant-nodes l = (map items_of l.lists.items ≡ replicate l.count []) × (l.count ≤ l.nodes)

abbrev pub decreases-nodes : goal.decreases-nodes
decreases-nodes l = l.nodes - l.count

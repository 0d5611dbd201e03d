use Rattle.std.proofs.Common.{◌+◌, ◌*◌, count_by}
use Rattle.bud_base.specs.Searches.{is_new}
use Rattle.bud_base.proofs.Explorations.{IsExploring}
use Rattle.bud_base.proofs.orders.explore.Given as goal

abbrev pub invariant-search : goal.invariant-search
invariant-search l = IsExploring l.items l.fn.marks l.marks l.order l.path l.free l.depth l.fn.root.0 l.top

abbrev pub decreases-search : goal.decreases-search
decreases-search l = 2 * count_by is_new l.marks + l.depth

use Rattle.std.proofs.Common.{rules}
use Rattle.std.proofs.lemmas.List.Sorted.{IsNonDecreasingBy-from_sort_by_key}
use Rattle.timing_graph.specs.GraphViews.{key_of}
use Rattle.timing_graph.proofs.gathering.in_order.Goals as goal

pub returns-clause-sorted : goal.returns-clause-sorted
returns-clause-sorted c = IsNonDecreasingBy-from_sort_by_key key_of _ c.in_ok-sort_by_key.ensures.sorted (λ a r q k. search rules)

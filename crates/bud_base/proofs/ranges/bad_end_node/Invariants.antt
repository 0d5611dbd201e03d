use Rattle.std.proofs.Common.{◌≡◌, drop, map, find, nat_le}
use Rattle.bud_base.proofs.ranges.bad_end_node.Given as goal

abbrev pub invariant-loop-end : goal.invariant-loop-end
invariant-loop-end l =
    find (λ n. nat_le l.nodes n) (map (λ x. x.node.0) l.ends) ≡ find (λ n. nat_le l.nodes n) (map (λ x. x.node.0) (drop l.end-index l.ends))

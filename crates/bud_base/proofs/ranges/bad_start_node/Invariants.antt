use Rattle.std.proofs.Common.{◌≡◌, drop, map, find, nat_le}
use Rattle.bud_base.proofs.ranges.bad_start_node.Given as goal

abbrev pub invariant-loop-start : goal.invariant-loop-start
invariant-loop-start l =
    find (λ n. nat_le l.nodes n) (map (λ x. x.node.0) l.starts) ≡ find (λ n. nat_le l.nodes n) (map (λ x. x.node.0) (drop l.start-index l.starts))

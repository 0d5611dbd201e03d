use Rattle.std.proofs.Common.{◌≡◌, ◌≤◌, ◌++◌, ◌-◌, Some, map, reverse}
use Rattle.std.specs.List.{range_with_len}
use Rattle.net_drivers.proofs.numbers.put_falling.Given as goal

abbrev pub invariant-loop-n : goal.invariant-loop-n
invariant-loop-n l = record {
  order : l.last ≤ l.n;
  small : l.n ≤ l.end;
  rest : l.into.items ++ map (λ k. Some k) (reverse (range_with_len l.last (l.n - l.last))) ≡ l.initial.into.items ++ map (λ k. Some k) (reverse (range_with_len l.last (l.end - l.last)));
}

abbrev pub decreases-loop-n : goal.decreases-loop-n
decreases-loop-n l = l.n

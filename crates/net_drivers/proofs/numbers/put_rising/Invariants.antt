use Rattle.std.proofs.Common.{◌≡◌, ◌++◌, ◌-◌, Some, map}
use Rattle.std.specs.List.{range_with_len}
use Rattle.net_drivers.proofs.numbers.put_rising.Given as goal

abbrev pub invariant-loop-n : goal.invariant-loop-n
invariant-loop-n l = l.into.items ++ map (λ k. Some k) (range_with_len l.n (l.end - l.n)) ≡ l.initial.into.items ++ map (λ k. Some k) (range_with_len l.first (l.end - l.first))

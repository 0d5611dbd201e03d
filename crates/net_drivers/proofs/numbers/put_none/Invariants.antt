use Rattle.std.proofs.Common.{◌≡◌, ◌++◌, None, replicate}
use Rattle.net_drivers.proofs.numbers.put_none.Given as goal

abbrev pub invariant-loop-bit : goal.invariant-loop-bit
invariant-loop-bit l = l.into.items ≡ l.initial.into.items ++ replicate l._bit None

use Rattle.std.proofs.Common.{◌≡◌, ◌++◌, replicate}
use Rattle.net_drivers.proofs.joins.put_direction.Given as goal

abbrev pub invariant-loop-bit : goal.invariant-loop-bit
invariant-loop-bit l = l.into.items ≡ l.initial.into.items ++ replicate l._bit l.dir

use Rattle.std.proofs.Common.{◌≡◌, drop}
use Rattle.std.specs.Str.{bytes_eq}
use Rattle.module_nets.proofs.keys.are_same.Given as goal

-- the names so far are the same
abbrev pub invariant-loop-k : goal.invariant-loop-k
invariant-loop-k l = bytes_eq l.a l.b ≡ bytes_eq (drop l.k l.a) (drop l.k l.b)

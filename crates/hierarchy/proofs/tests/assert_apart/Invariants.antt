use Rattle.std.proofs.Common.{◌≡◌, ℕ, ◌<◌, false, length, get_or}
use Rattle.std.specs.Str.{bytes_eq}
use Rattle.bud_syntax.specs.declared.modules.Port.{Port}
use Rattle.hierarchy.proofs.tests.assert_apart.Given as goal

abbrev pub invariant-loop-k : goal.invariant-loop-k
invariant-loop-k g l = (i j : ℕ) (d : Port) → i < l.k → i < j → j < length l.ports → bytes_eq (get_or l.ports i d).name (get_or l.ports j d).name ≡ false

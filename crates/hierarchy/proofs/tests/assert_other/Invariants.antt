use Rattle.std.proofs.Common.{◌≡◌, ℕ, ◌<◌, false, get_or}
use Rattle.std.specs.Str.{bytes_eq}
use Rattle.bud_syntax.specs.declared.modules.Port.{Port}
use Rattle.hierarchy.proofs.tests.assert_other.Given as goal

abbrev pub invariant-loop-port : goal.invariant-loop-port
invariant-loop-port g l = (k : ℕ) (d : Port) → k < l.port-index → bytes_eq l.name (get_or l.ports k d).name ≡ false

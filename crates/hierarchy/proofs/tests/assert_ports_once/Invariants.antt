use Rattle.std.proofs.Common.{ℕ, ◌<◌, get_or}
use Rattle.bud_syntax.specs.declared.modules.Module.{Module}
use Rattle.elaborations.specs.Ports.{HasPortsOnce}
use Rattle.hierarchy.proofs.tests.assert_ports_once.Given as goal

abbrev pub invariant-loop-module : goal.invariant-loop-module
invariant-loop-module g l = (k : ℕ) (d : Module) → k < l.module-index → HasPortsOnce (get_or l.modules k d)

use Rattle.std.proofs.Common.{◌≡◌, find, drop}
use Rattle.module_nets.specs.Entering.{is_inout}
use Rattle.module_nets.proofs.judging.first_inout.Given as goal

abbrev pub invariant-loop-port : goal.invariant-loop-port
invariant-loop-port l = find (λ p. is_inout p.dir) l.ports ≡ find (λ p. is_inout p.dir) (drop l.port-index l.ports)

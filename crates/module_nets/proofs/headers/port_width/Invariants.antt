use Rattle.std.proofs.Common.{◌≡◌, ◌+◌, ◌≤◌, sum_by, drop}
use Rattle.module_nets.specs.Numbers.{range_width, capped}
use Rattle.module_nets.proofs.headers.port_width.Given as goal

abbrev pub invariant-loop-port : goal.invariant-loop-port
invariant-loop-port l = (capped (sum_by (λ p. range_width p.range) l.ports) ≡ capped (l.bits + sum_by (λ p. range_width p.range) (drop l.port-index l.ports))) × (l.bits ≤ 18446744073709551615)

use Rattle.std.proofs.Common.{[], map, take}
use Rattle.module_nets.specs.Gathering.{Gathers}
use Rattle.module_nets.specs.Numbers.{net_of}
use Rattle.module_nets.proofs.gathering.Gathered.put_ports.Given as goal

abbrev pub invariant-loop-port : goal.invariant-loop-port
invariant-loop-port l = Gathers [] [] l.fn.self → Gathers (map (λ p. net_of p.name p.range) (take l.port-index l.ports)) [] l.self

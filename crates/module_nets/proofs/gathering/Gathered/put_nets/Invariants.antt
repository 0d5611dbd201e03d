use Rattle.std.proofs.Common.{List, [], map, take}
use Rattle.module_nets.specs.Gathering.{Gathers}
use Rattle.module_nets.specs.Numbers.{Net, net_of}
use Rattle.module_nets.proofs.gathering.Gathered.put_nets.Given as goal

abbrev pub invariant-loop-net : goal.invariant-loop-net
invariant-loop-net l = (ports : List Net) → Gathers ports [] l.fn.self → Gathers ports (map (λ n. net_of n.name n.range) (take l.net-index l.nets)) l.self

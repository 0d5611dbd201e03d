use Rattle.std.proofs.Common.{◌≡◌, ◌++◌, drop}
use Rattle.net_drivers.specs.Joints.{directions}
use Rattle.net_drivers.proofs.joins.fill_directions.Given as goal

abbrev pub invariant-loop-port : goal.invariant-loop-port
invariant-loop-port l = l.dirs.items ++ directions (drop l.port-index l.ports) ≡ directions l.ports

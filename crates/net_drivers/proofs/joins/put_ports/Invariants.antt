use Rattle.std.proofs.Common.{take}
use Rattle.net_drivers.specs.Appending.{Appends}
use Rattle.net_drivers.specs.Joins.{joined_ports}
use Rattle.net_drivers.proofs.joins.put_ports.Given as goal

abbrev pub invariant-loop-place : goal.invariant-loop-place
invariant-loop-place l = Appends l.table.module.now (joined_ports 0 l.table.module.now l.links (take l.place l.ports)) l.initial.into.items l.into.items

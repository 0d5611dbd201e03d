use Rattle.std.proofs.Common.{◌≡◌, ◌++◌, drop}
use Rattle.net_drivers.specs.Links.{placed_from}
use Rattle.net_drivers.proofs.links.place_links.Given as goal

abbrev pub invariant-loop-number : goal.invariant-loop-number
invariant-loop-number l = l.placed.items ++ placed_from l.number (drop l.number l.links) ≡ placed_from 0 l.links

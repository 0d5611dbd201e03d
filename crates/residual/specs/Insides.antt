-- How the fields of a network keep its value.
use Rattle.std.specs.Prelude.{◌≡◌, ◌+◌, ◌*◌, length}
use Rattle.residual.specs.Networks.{Network, IsLawful}
use Rattle.residual.specs.Excesses.{AreExcesses}
use Rattle.residual.specs.Leaving.{AreListed}
use Rattle.residual.specs.declared.nets.Net.TheInside.{Inside}

abbrev pub network_of : Inside → Network
network_of net = record {
  nodes = net.nodes;
  items = net.items;
  starts = net.starts;
  ends = net.ends;
  arcs = net.arcs.items;
  flows = net.flows.items;
  kept = net.potentials.kept;
  potentials = net.potentials.present;
  is_open = net.is_open;
}

-- the law of the network, its excesses and the arcs of each node are at hand, and there is a mark for each node and the root
pub record IsKeeping (net : Inside) : Type 0 where
  pub lawful : IsLawful (network_of net)
  pub excess_size : length net.excess.items ≡ net.nodes + 1
  pub excesses : AreExcesses net.arcs.items net.flows.items net.excess.items
  pub listed : AreListed net.arcs.items net.lists (net.nodes + 1) (2 * length net.arcs.items)
  pub ways : length net.ways.items ≡ net.nodes + 1

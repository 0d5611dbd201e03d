use Rattle.std.proofs.Common.{◌≡◌, ◌⊎◌, length}
use Rattle.residual.specs.Walks.{AreWalksTaken, flow_between, LoseAtMost, HasWalk}
use Rattle.residual.proofs.Walking.{size_of}
use Rattle.residual.proofs.walks.trim_flows.Given as goal

abbrev pub invariant-searches : goal.invariant-searches
invariant-searches l = AreWalksTaken l.arcs l.first l.fn.flows l.flows × (length l.ways ≡ length l.fn.ways) × ((l.flows ≡ l.fn.flows) ⊎ HasWalk l.arcs l.fn.flows l.first l.root.0 l.from l.to) × LoseAtMost l.from l.to l.fn.flows l.flows

abbrev pub decreases-searches : goal.decreases-searches
decreases-searches l = size_of (flow_between l.from l.to l.flows)

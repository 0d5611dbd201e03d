-- Flows of items, starts and ends are at least 0.
use Rattle.std.proofs.Common.{ℕ, pos, ◌≤ℤ◌, ◌+◌, ◌<◌, arith}
use Rattle.std.proofs.lemmas.Int.{ints}
use Rattle.residual.specs.Networks.{Network, IsLawful, item_flow_at, start_flow_at, end_flow_at}

pub item_flow-least : (net : Network) (i : ℕ) → IsLawful net → i < net.items → pos 0 ≤ℤ item_flow_at net i
item_flow-least net i lawful within =
    omega (arith, ints, (lawful.flows i (omega (arith, lawful.sizes.arcs))).least, (lawful.flows (net.items + i) (omega (arith, lawful.sizes.arcs))).least)

pub start_flow-least : (net : Network) (s : ℕ) → IsLawful net → s < net.starts → pos 0 ≤ℤ start_flow_at net s
start_flow-least net s lawful within = (lawful.flows (net.items + net.items + s) (omega (arith, lawful.sizes.arcs))).least

pub end_flow-least : (net : Network) (e : ℕ) → IsLawful net → e < net.ends → pos 0 ≤ℤ end_flow_at net e
end_flow-least net e lawful within = (lawful.flows (net.items + net.items + net.starts + e) (omega (arith, lawful.sizes.arcs))).least

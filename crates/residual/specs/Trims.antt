-- Flows that are taken off a network.
use Rattle.std.specs.Prelude.{◌≡◌, ℕ, ℤ, pos, ◌+◌, ◌<◌, ◌<ℤ◌, ◌≤ℤ◌, List, [], ◌∷◌, length}
use Rattle.bud_base.specs.Paths.{Path}
use Rattle.bud_base.specs.declared.ids.ItemId.{ItemId}
use Rattle.bud_flow.specs.Sums.{sum_below, number_at}
use Rattle.residual.specs.Arcs.{arc_at}
use Rattle.residual.specs.Networks.{Network, start_flow_at, end_flow_at}

-- each flow is at most what it was, and none has fallen below 0
pub record AreLess (old new : List ℤ) : Type 0 where
  pub size : length new ≡ length old
  pub less : (j : ℕ) → number_at new j ≤ℤ number_at old j
  pub least : (j : ℕ) → pos 0 ≤ℤ number_at old j → pos 0 ≤ℤ number_at new j

-- the flows of the first arcs of items stay
abbrev pub KeepsLimited : Network → List ℤ → Type 0
KeepsLimited net new = (i : ℕ) → i < net.items → number_at new i ≡ number_at net.flows i

-- what the first arcs of all items can carry together, which for the network of a problem is the sum of the weights
abbrev pub total_limit : Network → ℤ
total_limit net = sum_below net.items (λ i. (arc_at net.arcs i).limit)

-- the arcs without limit of items lead one after another from a node to another, and each has flow
abbrev pub FlowsAlong : Network → ℕ → List ItemId → ℕ → Type 0
FlowsAlong net a [] b = a ≡ b
FlowsAlong net a (i ∷ is) b =
    (i.0 < net.items) × (pos 0 <ℤ number_at net.flows (net.items + i.0)) × ((arc_at net.arcs (net.items + i.0)).from.0 ≡ a)
    × FlowsAlong net (arc_at net.arcs (net.items + i.0)).to.0 is b

-- a path has a surplus where the arcs of its start and of its end and the arcs without limit of its items all have flow
pub record HasSurplus (net : Network) (path : Path) : Type 0 where
  pub start : path.start < net.starts
  pub end : path.end < net.ends
  pub start_flow : pos 0 <ℤ start_flow_at net path.start
  pub end_flow : pos 0 <ℤ end_flow_at net path.end
  pub along : FlowsAlong net (arc_at net.arcs (net.items + net.items + path.start)).to.0 path.items
      (arc_at net.arcs (net.items + net.items + net.starts + path.end)).from.0

abbrev pub HasNoSurplus : Network → Type 0
HasNoSurplus net = (path : Path) → HasSurplus net path → ⊥

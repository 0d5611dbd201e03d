-- What contracts see of a network, its law, and what it is for a problem.
use Rattle.std.specs.Prelude.{◌≡◌, ℕ, ℤ, pos, ◌+◌, ◌*◌, ◌^◌, ◌<◌, ◌+ℤ◌, Bool, false, List, length}
use Rattle.bud_base.specs.Paths.{item_at, start_at, end_at}
use Rattle.bud_base.specs.declared.problems.Problem.{Problem}
use Rattle.bud_flow.specs.Sums.{number_at}
use Rattle.residual.specs.Arcs.{arc_at, full, limited_arc, open_arc, start_arc, end_arc, residual_at, HoldsReduced, CarryAll, JoinBelow, first_flow}
use Rattle.residual.specs.Bounds.{AllWithin}
use Rattle.residual.specs.Excesses.{excess_of}
use Rattle.residual.specs.declared.arcs.Arc.{Arc}
use Rattle.residual.specs.declared.arcs.Look.{Look}

-- The arcs are those of the items with room for their weights, then those of the items without limit, of the starts and of the ends.
-- The number of the root is that of the nodes. The kept potentials are those before the open round, the potentials those of now.
pub record Network : Type 0 where
  pub nodes : ℕ
  pub items : ℕ
  pub starts : ℕ
  pub ends : ℕ
  pub arcs : List Arc
  pub flows : List ℤ
  pub kept : List ℤ
  pub potentials : List ℤ
  pub is_open : Bool

-- a key of a residual arc
abbrev pub IsKey : Network → ℕ → Type 0
IsKey net key = key < 2 * length net.arcs

-- the residual arc of a key
abbrev pub residual : Network → ℕ → Look
residual net key = residual_at net.arcs net.flows key

-- each residual arc with room has a reduced cost of at least 0 under these potentials
abbrev pub AreReduced : Network → List ℤ → Type 0
AreReduced net potentials = (key : ℕ) → IsKey net key → HoldsReduced net.arcs net.flows potentials key

-- the flow into the node less the flow out of it
abbrev pub excess_at : Network → ℕ → ℤ
excess_at net v = excess_of net.arcs net.flows v

-- what an item carries over its two arcs
abbrev pub item_flow_at : Network → ℕ → ℤ
item_flow_at net i = number_at net.flows i +ℤ number_at net.flows (net.items + i)

abbrev pub start_flow_at : Network → ℕ → ℤ
start_flow_at net s = number_at net.flows (net.items + net.items + s)

abbrev pub end_flow_at : Network → ℕ → ℤ
end_flow_at net e = number_at net.flows (net.items + net.items + net.starts + e)

-- The arcs of the items join nodes below the root. Those of the starts come from the root, and those of the ends lead to it.
-- All but the first arc of each item are without limit.
pub record HasShape (root items starts ends : ℕ) (arcs : List Arc) : Type 0 where
  pub limited_from : (i : ℕ) → i < items → (arc_at arcs i).from.0 < root
  pub limited_to : (i : ℕ) → i < items → (arc_at arcs i).to.0 < root
  pub open_from : (i : ℕ) → i < items → (arc_at arcs (items + i)).from.0 < root
  pub open_to : (i : ℕ) → i < items → (arc_at arcs (items + i)).to.0 < root
  pub open_limit : (i : ℕ) → i < items → (arc_at arcs (items + i)).limit ≡ full
  pub start_from : (s : ℕ) → s < starts → (arc_at arcs (items + items + s)).from.0 ≡ root
  pub start_to : (s : ℕ) → s < starts → (arc_at arcs (items + items + s)).to.0 < root
  pub start_limit : (s : ℕ) → s < starts → (arc_at arcs (items + items + s)).limit ≡ full
  pub end_from : (e : ℕ) → e < ends → (arc_at arcs (items + items + starts + e)).from.0 < root
  pub end_to : (e : ℕ) → e < ends → (arc_at arcs (items + items + starts + e)).to.0 ≡ root
  pub end_limit : (e : ℕ) → e < ends → (arc_at arcs (items + items + starts + e)).limit ≡ full

-- the network has an arc for each of its numbers, and a potential for each node and the root
pub record HasSizes (net : Network) : Type 0 where
  pub arcs : length net.arcs ≡ net.items + net.items + net.starts + net.ends
  pub flows : length net.flows ≡ length net.arcs
  pub kept : length net.kept ≡ net.nodes + 1
  pub potentials : length net.potentials ≡ net.nodes + 1
  pub joins : JoinBelow (net.nodes + 1) net.arcs
  pub shape : HasShape net.nodes net.items net.starts net.ends net.arcs
  pub count : length net.arcs < 2 ^ 32

-- The law of a network. Its flows are at least 0 and within their limits, its kept potentials give each residual arc with room a reduced
-- cost of at least 0, the root's potential is 0, and where no round is open the potentials are the kept ones.
pub record IsLawful (net : Network) : Type 0 where
  pub sizes : HasSizes net
  pub flows : CarryAll net.arcs net.flows
  pub reduced : AreReduced net net.kept
  pub small : AllWithin (pos (2 ^ 60)) net.potentials
  pub root : number_at net.potentials net.nodes ≡ pos 0
  pub kept_root : number_at net.kept net.nodes ≡ pos 0
  pub closed : net.is_open ≡ false → net.potentials ≡ net.kept

-- the network's nodes, items with their numbers, starts and ends are those of the problem
pub record Fits (net : Network) (p : Problem) : Type 0 where
  pub nodes : net.nodes ≡ p.nodes
  pub items : net.items ≡ length p.items
  pub starts : net.starts ≡ length p.starts
  pub ends : net.ends ≡ length p.ends
  pub limited_arcs : (i : ℕ) → i < length p.items → arc_at net.arcs i ≡ limited_arc (item_at p.items i)
  pub open_arcs : (i : ℕ) → i < length p.items → arc_at net.arcs (length p.items + i) ≡ open_arc (item_at p.items i)
  pub start_arcs : (s : ℕ) → s < length p.starts → arc_at net.arcs (length p.items + length p.items + s) ≡ start_arc p.nodes (start_at p.starts s)
  pub end_arcs : (e : ℕ) → e < length p.ends → arc_at net.arcs (length p.items + length p.items + length p.starts + e) ≡ end_arc p.nodes (end_at p.ends e)

-- each item carries its weight where the potentials of its nodes differ by less than its greatest, else nothing; starts and ends carry nothing
pub record IsFresh (p : Problem) (net : Network) : Type 0 where
  pub items : (i : ℕ) → i < length p.items → item_flow_at net i ≡ first_flow net.potentials (item_at p.items i)
  pub starts : (s : ℕ) → s < length p.starts → start_flow_at net s ≡ pos 0
  pub ends : (e : ℕ) → e < length p.ends → end_flow_at net e ≡ pos 0
  pub closed : net.is_open ≡ false

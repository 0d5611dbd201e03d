-- Arcs, and what is left of them under a flow.
use Rattle.std.specs.Prelude.{ℕ, ℤ, pos, ◌+ℤ◌, ◌-ℤ◌, ◌≤ℤ◌, ◌<ℤ◌, ◌<◌, ◌/◌, ◌%◌, ◌^◌, ◌==◌, Bool, true, false, List, length, slice_index_or, int_lt, if◌then◌else◌}
use Rattle.bud_base.specs.declared.problems.Item.{Item}
use Rattle.bud_base.specs.declared.problems.Start.{Start}
use Rattle.bud_base.specs.declared.problems.End.{End}
use Rattle.bud_flow.specs.Sums.{number_at}
use Rattle.residual.specs.Bounds.{IsSmall}
use Rattle.residual.specs.declared.arcs.Arc.{Arc}
use Rattle.residual.specs.declared.arcs.Look.{Look}

-- the arc of a number below the list's length
abbrev pub arc_at : List Arc → ℕ → Arc
arc_at arcs j = slice_index_or arcs j (record { from = record { 0 = 0 }; to = record { 0 = 0 }; cost = pos 0; limit = pos 0 })

-- the flow at which an arc without limit is full
abbrev pub full : ℤ
full = pos (2 ^ 80)

-- an item's arc with room for its weight
abbrev pub limited_arc : Item → Arc
limited_arc x = record { from = x.from; to = x.to; cost = pos 0 -ℤ x.greatest; limit = pos x.weight }

-- an item's arc without limit
abbrev pub open_arc : Item → Arc
open_arc x = record { from = x.from; to = x.to; cost = pos 0 -ℤ x.least; limit = full }

-- a start's arc comes from the root
abbrev pub start_arc : ℕ → Start → Arc
start_arc root s = record { from = record { 0 = root }; to = s.node; cost = pos 0 -ℤ s.offset; limit = full }

-- an end's arc leads to the root
abbrev pub end_arc : ℕ → End → Arc
end_arc root e = record { from = e.node; to = record { 0 = root }; cost = e.require; limit = full }

-- what is left of an arc under a flow, and, for false, its reverse: its cost is negated and its room is the flow
abbrev pub residual_of : Arc → ℤ → Bool → Look
residual_of a flow true = record { from = a.from; to = a.to; room = a.limit -ℤ flow; cost = a.cost }
residual_of a flow false = record { from = a.to; to = a.from; room = flow; cost = pos 0 -ℤ a.cost }

-- the residual arc of a key: an arc has an even key, and its reverse the odd key after it
abbrev pub residual_at : List Arc → List ℤ → ℕ → Look
residual_at arcs flows key = residual_of (arc_at arcs (key / 2)) (number_at flows (key / 2)) (key % 2 == 0)

-- the item's times are small
pub record HasSmallTimes (x : Item) : Type 0 where
  pub least : IsSmall x.least
  pub greatest : IsSmall x.greatest

-- the item is between nodes below this number
pub record IsBetween (nodes : ℕ) (x : Item) : Type 0 where
  pub from : x.from.0 < nodes
  pub to : x.to.0 < nodes

-- the arcs join nodes below this number
pub record JoinBelow (nodes : ℕ) (arcs : List Arc) : Type 0 where
  pub from : (j : ℕ) → j < length arcs → (arc_at arcs j).from.0 < nodes
  pub to : (j : ℕ) → j < length arcs → (arc_at arcs j).to.0 < nodes

-- an item's weight where the potentials of its nodes differ by less than its greatest, else 0
abbrev pub first_flow : List ℤ → Item → ℤ
first_flow potentials x =
    if int_lt (number_at potentials x.to.0 -ℤ number_at potentials x.from.0) x.greatest then pos x.weight else pos 0

-- the cost, and the potential that the arc gains
abbrev pub reduced_cost : List ℤ → Look → ℤ
reduced_cost potentials look = look.cost +ℤ (number_at potentials look.to.0 -ℤ number_at potentials look.from.0)

-- the flow is at least 0 and at most the arc's limit, and the arc's numbers are in their ranges
pub record CanCarry (a : Arc) (flow : ℤ) : Type 0 where
  pub least : pos 0 ≤ℤ flow
  pub most : flow ≤ℤ a.limit
  pub limit : a.limit ≤ℤ full
  pub cost : IsSmall a.cost

abbrev pub CarryAll : List Arc → List ℤ → Type 0
CarryAll arcs flows = (j : ℕ) → j < length arcs → CanCarry (arc_at arcs j) (number_at flows j)

-- where the residual arc of the key has room, its reduced cost is at least 0
abbrev pub HoldsReduced : List Arc → List ℤ → List ℤ → ℕ → Type 0
HoldsReduced arcs flows potentials key =
    pos 0 <ℤ (residual_at arcs flows key).room → pos 0 ≤ℤ reduced_cost potentials (residual_at arcs flows key)

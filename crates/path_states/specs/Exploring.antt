-- Tables of all states that launches reach.
use Rattle.std.specs.Prelude.{◌≡◌, ℕ, suc, ◌<◌, ◌≤◌, ◌⊎◌, List, [], ◌∷◌, ◌++◌, pos, length}
use Rattle.bud_base.specs.Paths.{item_at}
use Rattle.bud_base.specs.declared.ids.ArcId.{ArcId}
use Rattle.bud_base.specs.declared.ids.NodeId.{NodeId}
use Rattle.bud_base.specs.declared.problems.Item.{Item}
use Rattle.bud_design.specs.declared.clocks.Constraints.{Constraints}
use Rattle.bud_design.specs.Exceptions.{class_of, class_at}
use Rattle.bud_design.specs.TimingPaths.{launch_at}
use Rattle.path_states.specs.Tables.{Table, Keeps, IsWithin, pin_at, class_in, launch_in, arc_in, from_in, to_in}

-- an edge leads along its arc, from a class to the one behind its last pin, and never to a state that only later launches reach
pub record IsEdge (arcs : List Item) (all : Constraints) (t : Table) (e : ℕ) : Type 0 where
  pub from : from_in t e < length t.states
  pub to : to_in t e < length t.states
  pub arc : arc_in t e < length arcs
  pub leaves : (item_at arcs (arc_in t e)).from.0 ≡ pin_at t (from_in t e)
  pub enters : (item_at arcs (arc_in t e)).to.0 ≡ pin_at t (to_in t e)
  pub goes : class_in t (to_in t e) ≡ class_at all (class_in t (from_in t e)) (pin_at t (to_in t e))
  pub earlier : launch_in t (to_in t e) ≤ launch_in t (from_in t e)

-- the state is where its launch begins
pub record IsBegun (all : Constraints) (t : Table) (i : ℕ) : Type 0 where
  pub number : launch_in t i < length all.launches
  pub pin : pin_at t i ≡ (launch_at all.launches (launch_in t i)).pin.0
  pub «class» : class_in t i ≡ class_of all (launch_at all.launches (launch_in t i)) ((launch_at all.launches (launch_in t i)).pin.0 ∷ [])

-- an edge leads to the state from one with a lower number and the same launch
pub record IsCaused (t : Table) (i : ℕ) : Type 0 where
  pub edge : ℕ
  pub within : edge < length t.edges
  pub to : to_in t edge ≡ i
  pub lower : from_in t edge < i
  pub launch : launch_in t (from_in t edge) ≡ launch_in t i

-- each state is reached, and each edge leads from state to state
pub record AreStates (arcs : List Item) (all : Constraints) (t : Table) : Type 0 where
  pub lists : IsWithin t
  pub edges : (e : ℕ) → e < length t.edges → IsEdge arcs all t e
  pub causes : (i : ℕ) → i < length t.states → IsBegun all t i ⊎ IsCaused t i

-- an edge for the arc from the state
pub record HasEdge (t : Table) (i a : ℕ) : Type 0 where
  pub edge : ℕ
  pub within : edge < length t.edges
  pub from : from_in t edge ≡ i
  pub arc : arc_in t edge ≡ a

-- the arcs with numbers below `low` that leave the state's pin have their edges
abbrev pub AreTried : List Item → Table → ℕ → ℕ → Type 0
AreTried arcs t i low = (a : ℕ) → a < low → a < length arcs → (item_at arcs a).from.0 ≡ pin_at t i → HasEdge t i a

-- the state where a launch begins is there, with this launch or an earlier one
pub record HasBegin (all : Constraints) (t : Table) (n : ℕ) : Type 0 where
  pub state : ℕ
  pub within : state < length t.states
  pub pin : pin_at t state ≡ (launch_at all.launches n).pin.0
  pub «class» : class_in t state ≡ class_of all (launch_at all.launches n) ((launch_at all.launches n).pin.0 ∷ [])
  pub earlier : launch_in t state ≤ n

-- the edges of the first `done` states are there, and those behind them are states of launch n; so many launches have begun
pub record IsExploring (arcs : List Item) (all : Constraints) (t : Table) (done n begun : ℕ) : Type 0 where
  pub states : AreStates arcs all t
  pub few : done ≤ length t.states
  pub tried : (i : ℕ) → i < done → AreTried arcs t i (length arcs)
  pub latest : (i : ℕ) → i < length t.states → launch_in t i ≤ n
  pub waiting : (i : ℕ) → done ≤ i → i < length t.states → launch_in t i ≡ n
  pub have_begun : (m : ℕ) → m < begun → HasBegin all t m

-- the states are those that launches reach, with their edges
pub record IsExplored (arcs : List Item) (all : Constraints) (t : Table) : Type 0 where
  pub states : AreStates arcs all t
  pub tried : (i : ℕ) → i < length t.states → AreTried arcs t i (length arcs)
  pub begun : (m : ℕ) → m < length all.launches → HasBegin all t m

-- one edge more, along the arc from the state
pub record Follows (arcs : List Item) (all : Constraints) (old new : Table) (from arc n : ℕ) : Type 0 where
  pub keeps : Keeps old new
  pub lists : IsWithin new
  pub one : length new.edges ≡ suc (length old.edges)
  pub edge : IsEdge arcs all new (length old.edges)
  pub leaves_state : from_in new (length old.edges) ≡ from
  pub along : arc_in new (length old.edges) ≡ arc
  pub fresh : (j : ℕ) → length old.states ≤ j → j < length new.states → (to_in new (length old.edges) ≡ j) × (launch_in new j ≡ n)

-- the arc leaves the state's pin, and the state's launch is the latest
pub record CanFollow (arcs : List Item) (t : Table) (from arc n : ℕ) : Type 0 where
  pub lists : IsWithin t
  pub state : from < length t.states
  pub within : arc < length arcs
  pub leaves : (item_at arcs arc).from.0 ≡ pin_at t from
  pub launch : launch_in t from ≡ n
  pub latest : (i : ℕ) → i < length t.states → launch_in t i ≤ n

-- arcs join pins below a number, and launches stand at such pins
pub record PinsBelow (pins : ℕ) (arcs : List Item) (all : Constraints) : Type 0 where
  pub from : (a : ℕ) → a < length arcs → (item_at arcs a).from.0 < pins
  pub to : (a : ℕ) → a < length arcs → (item_at arcs a).to.0 < pins
  pub launches : (n : ℕ) → n < length all.launches → (launch_at all.launches n).pin.0 < pins

-- an edge is put behind the others
pub record AddsEdge (old new : Table) (from to : NodeId) (arc : ArcId) : Type 0 where
  pub kinds : new.kinds ≡ old.kinds
  pub states : new.states ≡ old.states
  pub launches : new.launches ≡ old.launches
  pub edges : new.edges ≡ old.edges ++ record { from = from; to = to; least = pos 0; greatest = pos 0; weight = 0 } ∷ []
  pub arcs : new.arcs ≡ old.arcs ++ arc ∷ []

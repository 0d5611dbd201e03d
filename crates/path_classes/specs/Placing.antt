-- Nodes, items, starts and ends of a layering, as they are placed by classes and numbers.
use Rattle.std.specs.Prelude.{◌≡◌, ℕ, ◌<◌, nat_lt, ℤ, pos, Bool, true, false, List, [], ◌∷◌, map, length, Option, Some, None, slice_index_or, All, AllPairs, Contains}
use Rattle.bud_base.specs.Paths.{item_at}
use Rattle.bud_base.specs.declared.problems.Item.{Item}
use Rattle.bud_base.specs.declared.problems.Start.{Start}
use Rattle.bud_base.specs.declared.problems.End.{End}
use Rattle.bud_design.specs.declared.clocks.Constraints.{Constraints}
use Rattle.bud_design.specs.declared.clocks.Launch.{Launch}
use Rattle.bud_design.specs.declared.layers.Class.{Class}
use Rattle.bud_design.specs.declared.layers.LayerNode.{LayerNode}
use Rattle.bud_design.specs.declared.layers.LayerItem.{LayerItem}
use Rattle.bud_design.specs.Exceptions.{class_of, class_requirement}
use Rattle.bud_design.specs.Layers.{class_number}
use Rattle.bud_design.specs.TimingPaths.{launch_at, least_asked}
use Rattle.path_states.specs.Tables.{Table, state_at, pin_at, class_in, arc_in, from_in, to_in}
pub use Rattle.state_laws.specs.Views.{AreStateEnds}
use Rattle.state_numbers.specs.Placed.{placed_at, IsPlaced}
use Rattle.state_numbers.specs.declared.placed.Placed.{Placed}
use Rattle.state_numbers.specs.declared.ranks.KindKey.{KindKey}

abbrev pub classes_of : List Class → List KindKey → List Class
classes_of kinds keys = map (λ x. class_number kinds x.kind) keys

abbrev pub node_of : Placed → LayerNode
node_of x = record { pin = record { 0 = x.number }; «class» = record { 0 = x.«class» } }

abbrev pub item_of : Placed → LayerItem
item_of x = record { arc = record { 0 = x.number }; «class» = record { 0 = x.«class» } }

abbrev pub rank_in : List (Option ℕ) → Table → ℕ → Option ℕ
rank_in ranks t i = slice_index_or ranks (state_at t.states i).kind None

-- the live state is placed by its class and its pin
pub record IsNodeOf (t : Table) (live : List Bool) (ranks : List (Option ℕ)) (i : ℕ) (x : Placed) : Type 0 where
  pub alive : slice_index_or live i false ≡ true
  pub pin : pin_at t i ≡ x.number
  pub rank : rank_in ranks t i ≡ Some x.«class»

-- the nodes are those of the first `count` states that are live
pub record AreNodes (t : Table) (live : List Bool) (ranks : List (Option ℕ)) (count : ℕ) (xs : List Placed) : Type 0 where
  pub sound : All (λ x. (i : ℕ) × (i < count) × IsNodeOf t live ranks i x) xs
  pub complete : (i : ℕ) → i < count → slice_index_or live i false ≡ true → (x : Placed) × (Contains xs x × IsNodeOf t live ranks i x)

-- the edge leads to a live state, and is placed by its class, its arc and the class behind it
pub record IsItemOf (t : Table) (live : List Bool) (ranks : List (Option ℕ)) (e : ℕ) (x : Placed) : Type 0 where
  pub alive : slice_index_or live (to_in t e) false ≡ true
  pub arc : arc_in t e ≡ x.number
  pub rank : rank_in ranks t (from_in t e) ≡ Some x.«class»
  pub behind : rank_in ranks t (to_in t e) ≡ Some x.with

pub record AreItems (t : Table) (live : List Bool) (ranks : List (Option ℕ)) (count : ℕ) (xs : List Placed) : Type 0 where
  pub sound : All (λ x. (e : ℕ) × (e < count) × IsItemOf t live ranks e x) xs
  pub complete : (e : ℕ) → e < count → slice_index_or live (to_in t e) false ≡ true → (x : Placed) × (Contains xs x × IsItemOf t live ranks e x)

-- edges join states, and lead to live ones from live ones alone
pub record EndsWithin (t : Table) (live : List Bool) : Type 0 where
  pub from : (e : ℕ) → e < length t.edges → from_in t e < length t.states
  pub to : (e : ℕ) → e < length t.edges → to_in t e < length t.states
  pub alive : (e : ℕ) → e < length t.edges → slice_index_or live (to_in t e) false ≡ true → slice_index_or live (from_in t e) false ≡ true

-- the item of an arc in a class joins the nodes of the arc's pins, the second in the class behind it
pub record IsItemAt (arcs : List Item) (nodes : List Placed) (x : Placed) (item : Item) : Type 0 where
  pub from_within : item.from.0 < length nodes
  pub from_is : IsPlaced x.«class» (item_at arcs x.number).from.0 (placed_at nodes item.from.0)
  pub to_within : item.to.0 < length nodes
  pub to_is : IsPlaced x.with (item_at arcs x.number).to.0 (placed_at nodes item.to.0)
  pub least : item.least ≡ (item_at arcs x.number).least
  pub greatest : item.greatest ≡ (item_at arcs x.number).least
  pub weight : item.weight ≡ 0

abbrev pub AreDifferent : List Class → Type 0
AreDifferent kinds = AllPairs (λ j k. j ≡ k → ⊥) kinds

-- the launch begins at the node of this place
pub record BeginsAtPlace (all : Constraints) (kinds : List Class) (ranks : List (Option ℕ)) (nodes : List Placed) (l : Launch) (place : ℕ) : Type 0 where
  pub kind : ℕ
  pub within : kind < length kinds
  pub class_is : class_number kinds kind ≡ class_of all l (l.pin.0 ∷ [])
  pub rank : ℕ
  pub ranked : slice_index_or ranks kind None ≡ Some rank
  pub node : place < length nodes
  pub placed : IsPlaced rank l.pin.0 (placed_at nodes place)

-- the one such place, or that there is none
abbrev pub IsStartPlace : Constraints → List Class → List (Option ℕ) → List Placed → Launch → Option ℕ → Type 0
IsStartPlace all kinds ranks nodes l None = (place : ℕ) → BeginsAtPlace all kinds ranks nodes l place → ⊥
IsStartPlace all kinds ranks nodes l (Some place) = BeginsAtPlace all kinds ranks nodes l place × ((other : ℕ) → BeginsAtPlace all kinds ranks nodes l other → other ≡ place)

-- the places where the first `count` launches begin
pub record AreStarts (all : Constraints) (kinds : List Class) (ranks : List (Option ℕ)) (nodes : List Placed) (count : ℕ) (xs : List Placed) : Type 0 where
  pub flat : All (λ x. x.«class» ≡ 0) xs
  pub within : All (λ x. x.with < count) xs
  pub sound : All (λ x. BeginsAtPlace all kinds ranks nodes (launch_at all.launches x.with) x.number) xs
  pub complete : (n : ℕ) → n < count → (place : ℕ) → BeginsAtPlace all kinds ranks nodes (launch_at all.launches n) place
      → Contains xs (record { «class» = 0; number = place; with = n })

abbrev pub start_of : List Launch → Placed → Start
start_of launches x = record { node = record { 0 = x.number }; offset = (launch_at launches x.with).offset }

-- what captures ask for at the node of a place
abbrev pub asked_at : Constraints → List Class → List Placed → ℕ → Option ℤ
asked_at all classes nodes p = least_asked all.captures (placed_at nodes p).number (class_requirement all (class_number classes (placed_at nodes p).«class»))

pub record AreNodeEnds (all : Constraints) (classes : List Class) (nodes : List Placed) (count : ℕ) (ends : List End) : Type 0 where
  pub rising : AllPairs (λ e f. nat_lt e.node.0 f.node.0 ≡ true) ends
  pub within : All (λ e. e.node.0 < count) ends
  pub sound : All (λ e. asked_at all classes nodes e.node.0 ≡ Some e.require) ends
  pub complete : (p : ℕ) → p < count → (z : ℤ) → asked_at all classes nodes p ≡ Some z → Contains ends (record { node = record { 0 = p }; require = z })

-- the classes have clocks
abbrev pub HasClocks : Constraints → List Class → Type 0
HasClocks all classes = All (λ k. k.clock < length all.clocks) classes

-- the classes of states have clocks
abbrev pub HaveClocks : Constraints → Table → Type 0
HaveClocks all t = (i : ℕ) → i < length t.states → (class_in t i).clock < length all.clocks

-- Tables of states: what their numbers stand for.
use Rattle.std.specs.Prelude.{◌≡◌, ℕ, ◌<◌, ◌≤◌, List, length, All, AllPairs, slice_index_or}
use Rattle.bud_base.specs.Paths.{item_at}
use Rattle.bud_base.specs.declared.ids.ArcId.{ArcId}
use Rattle.bud_base.specs.declared.problems.Item.{Item}
use Rattle.bud_design.specs.declared.layers.Class.{Class}
use Rattle.bud_design.specs.Layers.{class_number}
use Rattle.path_states.specs.declared.tables.State.{State}
use Rattle.path_states.specs.declared.tables.StateTable.{StateTable}

pub record Table : Type 0 where
  pub kinds : List Class
  pub states : List State
  pub launches : List ℕ
  pub edges : List Item
  pub arcs : List ArcId

abbrev pub table_of : StateTable → Table
table_of t = record { kinds = t.kinds; states = t.states.keys; launches = t.launches.items; edges = t.edges.items; arcs = t.arcs.items }

abbrev pub state_at : List State → ℕ → State
state_at states i = slice_index_or states i (record { pin = record { 0 = 0 }; kind = 0 })

-- the pin, the class and the launch of a state
abbrev pub pin_at : Table → ℕ → ℕ
pin_at t i = (state_at t.states i).pin.0

abbrev pub class_in : Table → ℕ → Class
class_in t i = class_number t.kinds (state_at t.states i).kind

abbrev pub launch_in : Table → ℕ → ℕ
launch_in t i = slice_index_or t.launches i 0

-- the arc of an edge, and the states that it joins
abbrev pub arc_in : Table → ℕ → ℕ
arc_in t e = (slice_index_or t.arcs e (record { 0 = 0 })).0

abbrev pub from_in : Table → ℕ → ℕ
from_in t e = (item_at t.edges e).from.0

abbrev pub to_in : Table → ℕ → ℕ
to_in t e = (item_at t.edges e).to.0

-- one launch for each state, one arc for each edge, and different classes
pub record IsWithin (t : Table) : Type 0 where
  pub launches : length t.launches ≡ length t.states
  pub arcs : length t.arcs ≡ length t.edges
  pub kinds : All (λ s. s.kind < length t.kinds) t.states
  pub different : AllPairs (λ j k. j ≡ k → ⊥) t.kinds

-- the states and edges of a table keep their numbers in another
pub record Keeps (old new : Table) : Type 0 where
  pub states : length old.states ≤ length new.states
  pub edges : length old.edges ≤ length new.edges
  pub pin : (i : ℕ) → i < length old.states → pin_at new i ≡ pin_at old i
  pub «class» : (i : ℕ) → i < length old.states → class_in new i ≡ class_in old i
  pub launch : (i : ℕ) → i < length old.states → launch_in new i ≡ launch_in old i
  pub from : (e : ℕ) → e < length old.edges → from_in new e ≡ from_in old e
  pub to : (e : ℕ) → e < length old.edges → to_in new e ≡ to_in old e
  pub arc : (e : ℕ) → e < length old.edges → arc_in new e ≡ arc_in old e

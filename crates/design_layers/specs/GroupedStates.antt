-- The states whose classes list an exception with groups, and their limit.
use Rattle.std.specs.Prelude.{◌≡◌, ◌<◌, ◌≤◌, List, filter, length, AllPairs, Result, Ok, Err}
use Rattle.bud_base.specs.declared.problems.Item.{Item}
use Rattle.bud_design.specs.Layers.{class_number}
use Rattle.bud_design.specs.declared.clocks.Constraints.{Constraints}
use Rattle.layer_theory.specs.LayerAnswers.{is_grouped}
use Rattle.layer_theory.specs.declared.refusals.LayerFault.{LayerFault}
use Rattle.layer_theory.specs.declared.refusals.LayerFault.TheVariants.{UnknownArc, UnknownInstance, NestedBlocks, UnknownClock, TooManyStates, TooManyItems, NoMemory}
use Rattle.path_states.specs.Exploring.{IsExplored}
use Rattle.path_states.specs.Tables.{Table, table_of}
use Rattle.path_states.specs.declared.tables.State.{State}
use Rattle.path_states.specs.declared.tables.StateTable.{StateTable}

abbrev pub grouped_states : Constraints → Table → List State
grouped_states all t = filter (λ s. is_grouped (class_number t.kinds s.kind).exceptions all) t.states

-- more different states than the limit are reached
pub record ReachesTooMany (arcs : List Item) (all : Constraints) : Type 0 where
  pub table : Table
  pub explored : IsExplored arcs all table
  pub different : AllPairs (λ s u. s ≡ u → ⊥) table.states
  pub more : 8388608 < length (grouped_states all table)

-- the states that are reached, or that too many are
abbrev pub IsStatesAnswer : List Item → Constraints → Result StateTable LayerFault → Type 0
IsStatesAnswer arcs all (Ok t) = IsExplored arcs all (table_of t) × (length (grouped_states all (table_of t)) ≤ 8388608)
IsStatesAnswer arcs all (Err (UnknownArc from to)) = ⊥
IsStatesAnswer arcs all (Err (UnknownInstance name)) = ⊥
IsStatesAnswer arcs all (Err (NestedBlocks a b)) = ⊥
IsStatesAnswer arcs all (Err (UnknownClock name)) = ⊥
IsStatesAnswer arcs all (Err (TooManyStates count)) = ReachesTooMany arcs all × (count ≡ 8388609)
IsStatesAnswer arcs all (Err (TooManyItems count)) = ⊥
IsStatesAnswer arcs all (Err NoMemory) = Unit {0}

-- Entering an element into a list where it isn't there, and a state into a table.
use Rattle.std.specs.Prelude.{◌≡◌, ℕ, suc, ◌<◌, ◌≤◌, Bool, true, false, List, length, slice_index_or}
use Rattle.bud_design.specs.declared.layers.Class.{Class}
use Rattle.path_states.specs.Tables.{Table, Keeps, IsWithin, pin_at, class_in, launch_in}

-- the element has this place, and the others keep theirs
pub record IsEntered {X : Type 0} (old new : List X) (x : X) (i : ℕ) : Type 0 where
  pub longer : length old ≤ length new
  pub kept : (j : ℕ) (d : X) → j < length old → slice_index_or new j d ≡ slice_index_or old j d
  pub within : i < length new
  pub here : (d : X) → slice_index_or new i d ≡ x
  pub fresh : (j : ℕ) → length old ≤ j → j < length new → j ≡ i

-- one more where it is new
abbrev pub LongerIf : Bool → ℕ → ℕ → Type 0
LongerIf true m n = n ≡ suc m
LongerIf false m n = n ≡ m

-- the state has this number, and launch n where it is new
pub record Enters (old new : Table) (i v : ℕ) (k : Class) (n : ℕ) : Type 0 where
  pub keeps : Keeps old new
  pub edges : new.edges ≡ old.edges
  pub arcs : new.arcs ≡ old.arcs
  pub lists : IsWithin new
  pub number : i < length new.states
  pub pin : pin_at new i ≡ v
  pub «class» : class_in new i ≡ k
  pub fresh : (j : ℕ) → length old.states ≤ j → j < length new.states → (j ≡ i) × (launch_in new j ≡ n)

-- Pins that lie in groups of exceptions, and marks of pins.
use Rattle.std.specs.Prelude.{◌≡◌, ℕ, ◌<◌, Bool, false, List, length, slice_index_or}
use Rattle.std.specs.List.{list_any}
use Rattle.bud_design.specs.Exceptions.{has_pin}
use Rattle.bud_design.specs.declared.clocks.Exception.{Exception}
use Rattle.class_steps.specs.Groups.{AreGroupPins}
use Rattle.path_states.specs.declared.groups.Groups.{Groups}

abbrev pub is_in_groups : Exception → ℕ → Bool
is_in_groups e v = list_any (λ g. has_pin g v) e.groups

-- what is not marked after it was not marked before, and passes no test
pub record Marks (is_inside : ℕ → Bool) (old new : List Bool) : Type 0 where
  pub size : length new ≡ length old
  pub left : (v : ℕ) → v < length old → slice_index_or new v false ≡ false → (slice_index_or old v false ≡ false) × (is_inside v ≡ false)

-- a pin that is not marked lies in no group
abbrev pub AreOutside : List Exception → List Bool → Type 0
AreOutside exceptions marks = (v : ℕ) → v < length marks → slice_index_or marks v false ≡ false → list_any (λ e. is_in_groups e v) exceptions ≡ false

pub record AreGroups (exceptions : List Exception) (groups : Groups) : Type 0 where
  pub outside : AreOutside exceptions groups.marks.items
  pub pins : AreGroupPins exceptions groups.pins

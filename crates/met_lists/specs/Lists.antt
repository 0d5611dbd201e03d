-- Exceptions that are listed at launches.
use Rattle.std.specs.Prelude.{◌≡◌, ℕ, ◌<◌, ◌==◌, ◌&&◌, not, Bool, List, [], ◌∷◌, ◌++◌, length, slice_index_or, if◌then◌else◌}
use Rattle.bud_design.specs.declared.layers.Class.{Class}
use Rattle.bud_design.specs.declared.layers.Met.{Met}
use Rattle.bud_design.specs.Layers.{class_number}
use Rattle.name_tables.specs.Chained.{key_at}
use Rattle.met_lists.specs.declared.lists.MetLists.{MetLists}
use Rattle.met_lists.specs.declared.turns.Turn.{Turn}
use Rattle.met_lists.specs.Turns.{met_by}

abbrev pub turn_at : List ℕ → ℕ → ℕ
turn_at turns v = slice_index_or turns v 0

-- the class with one exception more
abbrev pub with_met : Class → Met → Class
with_met k m = record { clock = k.clock; edge = k.edge; exceptions = k.exceptions ++ m ∷ [] }

pub record AreSized (count : ℕ) (x : MetLists) : Type 0 where
  pub classes : length x.classes.items ≡ count
  pub turns : length x.turns.items ≡ count

-- those of the launches that pass a test have met the exception by now, each once in the turn
pub record Notes (t : Turn) (pins : List ℕ) (is_met : ℕ → Bool) (old new : MetLists) : Type 0 where
  pub sizes : AreSized (length pins) new
  pub turns : (v : ℕ) → v < length pins → turn_at new.turns.items v ≡ (if is_met v then t.turn else turn_at old.turns.items v)
  pub classes : (v : ℕ) → v < length pins
      → class_number new.classes.items v
      ≡ (if is_met v && not (turn_at old.turns.items v == t.turn) then with_met (class_number old.classes.items v) (met_by t (key_at pins v)) else class_number old.classes.items v)

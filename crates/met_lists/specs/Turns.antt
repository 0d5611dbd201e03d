-- An exception as launches meet it.
use Rattle.std.specs.Prelude.{◌≡◌, ℕ, ◌==◌, Bool, List, if◌then◌else◌}
use Rattle.std.specs.List.{list_any}
use Rattle.bud_design.specs.declared.clocks.Exception.{Exception}
use Rattle.bud_design.specs.declared.layers.Met.{Met}
use Rattle.bud_design.specs.Exceptions.{has_pin, group_after}
use Rattle.met_lists.specs.declared.turns.Turn.{Turn}

abbrev pub has_key : List ℕ → ℕ → Bool
has_key keys v = list_any (λ u. v == u) keys

-- the exception with one step where the first group has the pin
abbrev pub met_by : Turn → ℕ → Met
met_by t pin = record { number = t.number; steps = if has_key t.pins.keys pin then 1 else 0 }

pub record IsTurn (turn : ℕ) (e : Exception) (t : Turn) : Type 0 where
  pub turn_is : t.turn ≡ turn
  pub number : t.number ≡ e.number
  pub pins : (v : ℕ) → has_key t.pins.keys v ≡ has_pin (group_after 0 e.groups) v

-- Classes of launches at their pins.
use Rattle.std.specs.Prelude.{◌≡◌, ℕ, ◌<◌, ◌≤◌, List, [], ◌∷◌, length, map, filter, take}
use Rattle.bud_design.specs.declared.clocks.Exception.{Exception}
use Rattle.bud_design.specs.declared.clocks.Launch.{Launch}
use Rattle.bud_design.specs.declared.layers.Class.{Class}
use Rattle.bud_design.specs.Exceptions.{steps, meets_from}
use Rattle.bud_design.specs.Layers.{class_number}
use Rattle.bud_design.specs.TimingPaths.{launch_at}
use Rattle.met_lists.specs.declared.lists.MetLists.{MetLists}
use Rattle.met_lists.specs.Lists.{turn_at, AreSized}

-- the class of a launch that has met no exceptions
abbrev pub bare_class : Launch → Class
bare_class l = record { clock = l.clock; edge = l.edge; exceptions = [] }

-- the class of a launch at its pin by these exceptions
abbrev pub class_by : List Exception → Launch → Class
class_by es l = record { clock = l.clock; edge = l.edge; exceptions = map (λ e. record { number = e.number; steps = steps (l.pin.0 ∷ []) e.groups }) (filter (λ e. meets_from e l) es) }

-- the launches have met those of the first exceptions that they meet
pub record AreMet (launches : List Launch) (es : List Exception) (count : ℕ) (x : MetLists) : Type 0 where
  pub sizes : AreSized (length launches) x
  pub turns : (v : ℕ) → v < length launches → turn_at x.turns.items v ≤ count
  pub classes : (v : ℕ) → v < length launches → class_number x.classes.items v ≡ class_by (take count es) (launch_at launches v)

-- Things that are in a design, and among the clocks made so far.
use Rattle.std.specs.Prelude.{ℕ, ◌<◌, length}
use Rattle.bud_design.specs.Designs.{Design}
use Rattle.timing_objects.specs.declared.things.Thing.{Thing}
use Rattle.timing_objects.specs.declared.things.Thing.TheVariants.{Pin, Cell, Clock}

abbrev pub IsThingIn : Design → ℕ → Thing → Type 0
IsThingIn d clocks (Pin v) = v.0 < length d.pins
IsThingIn d clocks (Cell p) = p < length d.places
IsThingIn d clocks (Clock c) = c < clocks

-- a thing that is a pin is one of the design
abbrev pub IsPinIn : Design → Thing → Type 0
IsPinIn d (Pin v) = v.0 < length d.pins
IsPinIn d (Cell p) = Unit {0}
IsPinIn d (Clock c) = Unit {0}

-- Where paths of a whole design begin and end: at ports of the top, or at pins of leaves.
use Rattle.std.specs.Prelude.{◌≡◌, ◌⊎◌, ℕ, ◌<◌, pos, true, List, length, All, Option}
use Rattle.bud_design.specs.declared.clocks.Launch.{Launch}
use Rattle.bud_design.specs.declared.clocks.Capture.{Capture}
use Rattle.bud_design.specs.declared.clocks.Constraints.{Constraints}
use Rattle.bud_design.specs.declared.timings.Timing.{Timing}
use Rattle.bud_design.specs.Arcs.{Arc, arc_at, is_clocked}
use Rattle.bud_design.specs.Designs.{Design, place_at, pin_at}
use Rattle.timing_objects.specs.Objects.{is_checked}
use Rattle.bud_design.specs.declared.layers.Layered.{Layered}
use Rattle.block_theory.specs.BlockPorts.{Context}
use Rattle.block_theory.specs.Blocks.{HasHome}

-- each arc has a home
abbrev pub HaveHomes : Design → List Arc → Type 0
HaveHomes d arcs = (i : ℕ) → i < length arcs → HasHome d (arc_at arcs i)

abbrev pub IsLeafPin : Design → ℕ → Type 0
IsLeafPin d v = (place_at d.places (pin_at d.pins v).place).leaf ≡ true

abbrev pub IsTopPin : Design → ℕ → Type 0
IsTopPin d v = (pin_at d.pins v).place ≡ 0

-- a launch stands at a port of the top, or at a clock pin and then at 0
pub record IsClockPinLaunch (t : Timing) (l : Launch) : Type 0 where
  pub clocked : is_clocked t l.pin.0 ≡ true
  pub offset : l.offset ≡ pos 0

abbrev pub LaunchStands : Design → Timing → Launch → Type 0
LaunchStands d t l = IsTopPin d l.pin.0 ⊎ IsClockPinLaunch t l

-- a capture stands at a port of the top, or at a data pin
abbrev pub CaptureStands : Design → Timing → Capture → Type 0
CaptureStands d t x = IsTopPin d x.pin.0 ⊎ (is_checked t x.pin.0 ≡ true)

pub record PathsStand (d : Design) (t : Timing) (all : Constraints) : Type 0 where
  pub launches : All (LaunchStands d t) all.launches
  pub captures : All (CaptureStands d t) all.captures
  -- clock pins and data pins are pins of leaves
  pub clocked : (v : ℕ) → is_clocked t v ≡ true → IsLeafPin d v
  pub checked : (v : ℕ) → is_checked t v ≡ true → IsLeafPin d v

-- what the file of the block at a place is made from
abbrev pub block_context : Design → Timing → Constraints → Layered → List (Option ℕ) → ℕ → Context
block_context d t all layered reached b = record { design = d; timing = t; all = all; layered = layered; reached = reached; block = b }

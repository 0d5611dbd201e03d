-- Timings whose checks and clock pins stand at pins of leaves, and what the entries of accepted rows keep.
use Rattle.std.specs.Prelude.{◌≡◌, ℕ, true, length, All}
use Rattle.bud_syntax.specs.Ranges.{IsReadTime}
use Rattle.bud_design.specs.declared.timings.Timing.{Timing}
use Rattle.bud_design.specs.Designs.{Design, place_at, pin_at, is_input}
use Rattle.net_delays.specs.Nets.{AreOneNet}
use Rattle.net_delays.specs.declared.alongs.Along.{Along}
use Rattle.registers.specs.Marks.{IsThroughWithin, IsSetupWithin}
use Rattle.registers.specs.declared.entries.Through.{Through}
use Rattle.registers.specs.declared.entries.Setup.{Setup}
use Rattle.delay_bind.specs.Entries.{Entries}
use Rattle.delay_bind.specs.RowAnswers.{IsAlongWithin}

abbrev pub IsLeafPin : Design → ℕ → Type 0
IsLeafPin d v = (place_at d.places (pin_at d.pins v).place).leaf ≡ true

pub record StandsInLeaves (d : Design) (t : Timing) : Type 0 where
  pub checks : All (λ x. IsLeafPin d x.pin.0) t.checks
  pub edges : All (λ x. IsLeafPin d x.pin.0) t.edges

-- a delay leaves an input of a leaf
pub record IsSoundThrough (d : Design) (t : Through) : Type 0 where
  pub within : IsThroughWithin (length d.pins) t
  pub leaf : IsLeafPin d t.from.0
  pub input : is_input (pin_at d.pins t.from.0).dir ≡ true
  pub time : IsReadTime t.value

-- a check stands at pins of a leaf
pub record IsSoundSetup (d : Design) (s : Setup) : Type 0 where
  pub within : IsSetupWithin (length d.pins) s
  pub pin_leaf : IsLeafPin d s.pin.0
  pub clock_leaf : IsLeafPin d s.clock.0
  pub time : IsReadTime s.value

-- a delay along wires joins two pins of one net
pub record IsSoundNet (d : Design) (x : Along) : Type 0 where
  pub within : IsAlongWithin (length d.pins) x
  pub net : AreOneNet d x.from.0 x.to.0
  pub time : IsReadTime x.value

pub record AreSoundEntries (d : Design) (e : Entries) : Type 0 where
  pub throughs : All (IsSoundThrough d) e.throughs
  pub setups : All (IsSoundSetup d) e.setups
  pub alongs : All (IsSoundNet d) e.alongs

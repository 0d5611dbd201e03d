-- Captures as items by their pins, and what makes their requirements sound.
use Rattle.std.specs.Prelude.{ℕ, ◌≡◌, ◌<◌, ℤ, pos, true, nat_lt, Option, Some, None, length, All, AllPairs}
use Rattle.bud_design.specs.Lists.{lesser}
use Rattle.bud_base.specs.declared.problems.Item.{Item}
use Rattle.bud_design.specs.declared.clocks.Capture.{Capture}
use Rattle.bud_design.specs.declared.clocks.Constraints.{Constraints}
use Rattle.bud_design.specs.Clocks.{IsSoundClock}
use Rattle.bud_design.specs.ConstraintRules.{IsReadTime, IsSoundKind}

-- a capture as an item from its pin
abbrev pub capture_item : Capture → Item
capture_item x = record { from = record { 0 = x.pin.0 }; to = record { 0 = 0 }; least = pos 0; greatest = pos 0; weight = 0 }

-- what requirements by class rest on
pub record HasSoundConstraints (all : Constraints) : Type 0 where
  pub clocks : All IsSoundClock all.clocks
  pub capture_clocks : All (λ x. x.clock < length all.clocks) all.captures
  pub amounts : All (λ x. IsReadTime x.amount) all.captures
  pub kinds : All (λ e. IsSoundKind e.kind) all.exceptions
  pub numbers : AllPairs (λ e f. nat_lt e.number f.number ≡ true) all.exceptions

-- the least that was found, with one ask more
abbrev pub with_ask : Option ℤ → Option ℤ → Option ℤ
with_ask None found = found
with_ask (Some z) found = Some (lesser z found)

-- What all resolved constraints keep, so that a layering can be built without a look at the timing.
use Rattle.std.specs.Prelude.{◌≡◌, ℕ, ◌<◌, ◌≤◌, nat_lt, true, length, All, AllPairs, Option, Some, None}
pub use Rattle.bud_syntax.specs.Ranges.{IsReadTime}
use Rattle.bud_design.specs.declared.clocks.Marks.{Marks}
use Rattle.bud_design.specs.declared.clocks.Exception.{Exception}
use Rattle.bud_design.specs.declared.clocks.ExceptionKind.{ExceptionKind}
use Rattle.bud_design.specs.declared.clocks.ExceptionKind.TheVariants.{FalsePath, Multicycle, MaxDelay}
use Rattle.bud_design.specs.declared.clocks.Constraints.{Constraints}
use Rattle.bud_design.specs.Clocks.{IsSoundClock}
use Rattle.bud_design.specs.Orders.{launch_before}

-- a multicycle counts 1 to 1,000 periods, and a maximum delay is a read time
abbrev pub IsSoundKind : ExceptionKind → Type 0
IsSoundKind FalsePath = Unit {0}
IsSoundKind (Multicycle n by_launch) = (1 ≤ n) × (n ≤ 1000)
IsSoundKind (MaxDelay amount) = IsReadTime amount

abbrev pub AreMarksBelow : ℕ → ℕ → Option Marks → Type 0
AreMarksBelow pins clocks None = Unit {0}
AreMarksBelow pins clocks (Some marks) = All (λ v. v.0 < pins) marks.pins × All (λ c. c < clocks) marks.clocks

-- what an exception names is in the design
pub record HasMarksBelow (pins clocks : ℕ) (e : Exception) : Type 0 where
  pub from : AreMarksBelow pins clocks e.from
  pub groups : All (λ g. All (λ v. v.0 < pins) g) e.groups
  pub to : AreMarksBelow pins clocks e.to

-- what all resolved constraints keep, so that a layering can be built without a look at the timing
pub record AreSoundConstraints (pins : ℕ) (all : Constraints) : Type 0 where
  pub clocks : All IsSoundClock all.clocks
  pub launch_clocks : All (λ l. l.clock < length all.clocks) all.launches
  pub launch_pins : All (λ l. l.pin.0 < pins) all.launches
  pub offsets : All (λ l. IsReadTime l.offset) all.launches
  pub capture_clocks : All (λ x. x.clock < length all.clocks) all.captures
  pub capture_pins : All (λ x. x.pin.0 < pins) all.captures
  pub amounts : All (λ x. IsReadTime x.amount) all.captures
  -- no pin is the pin of a launch and of a capture
  pub apart : All (λ l. All (λ x. l.pin.0 ≡ x.pin.0 → ⊥) all.captures) all.launches
  -- no two launches have one pin, clock and edge
  pub one_launch : AllPairs (λ l m. launch_before l m ≡ true) all.launches
  pub marks : All (HasMarksBelow pins (length all.clocks)) all.exceptions
  pub kinds : All (λ e. IsSoundKind e.kind) all.exceptions
  pub numbers : AllPairs (λ e f. nat_lt e.number f.number ≡ true) all.exceptions

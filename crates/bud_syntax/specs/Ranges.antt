-- The ranges of the numbers that delay files and commands have.
use Rattle.std.specs.Prelude.{ℕ, ◌≤◌, ℤ, pos, negsuc, ◌≤ℤ◌, List, Option, Some, None}
use Rattle.bud_syntax.specs.declared.constraints.SdcCommand.{SdcCommand}
use Rattle.bud_syntax.specs.declared.constraints.SdcCommand.TheVariants.{Clock, InputDelay, OutputDelay, FalsePath, Multicycle, MaxDelay}
use Rattle.bud_syntax.specs.declared.delays.SdfKind.{SdfKind}
use Rattle.bud_syntax.specs.declared.delays.SdfKind.TheVariants.{Cell, Delay, Wire, Setup}

-- a time within 10^9 ps either way
pub record IsReadTime (time : ℤ) : Type 0 where
  pub low : negsuc 999999999 ≤ℤ time
  pub high : time ≤ℤ pos 1000000000

-- the value of an entry of a delay file is such a time
abbrev pub IsReadKind : SdfKind → Type 0
IsReadKind Cell = Unit {0}
IsReadKind (Delay from edge to value) = IsReadTime value
IsReadKind (Wire from to value) = IsReadTime value
IsReadKind (Setup pin clock edge value) = IsReadTime value

-- the times of a command are such times, and a multicycle counts 1 to 1,000 periods
abbrev pub IsReadCommand : SdcCommand → Type 0
IsReadCommand (Clock name period rise fall sources) = IsReadTime period × IsReadTime rise × IsReadTime fall
IsReadCommand (InputDelay amount clock edge setup add ports) = IsReadTime amount
IsReadCommand (OutputDelay amount clock edge setup add ports) = IsReadTime amount
IsReadCommand (FalsePath setup from through to) = Unit {0}
IsReadCommand (Multicycle count setup by_launch from through to) = (1 ≤ count) × (count ≤ 1000)
IsReadCommand (MaxDelay amount from through to) = IsReadTime amount

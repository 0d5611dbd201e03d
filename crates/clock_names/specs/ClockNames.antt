-- The names of clocks in commands.
use Rattle.std.specs.Prelude.{◌≡◌, true}
use Rattle.bud_syntax.specs.declared.constraints.SdcCommand.{SdcCommand}
use Rattle.bud_syntax.specs.declared.constraints.SdcCommand.TheVariants.{Clock, InputDelay, OutputDelay, FalsePath, Multicycle, MaxDelay}
use Rattle.sdc_reader.specs.Words.{is_clock_name}

-- a command that makes a clock gives it a name that a clock may have
abbrev pub HasClockName : SdcCommand → Type 0
HasClockName (Clock name period rise fall sources) = is_clock_name name ≡ true
HasClockName (InputDelay amount clock edge setup add ports) = Unit {0}
HasClockName (OutputDelay amount clock edge setup add ports) = Unit {0}
HasClockName (FalsePath setup from through to) = Unit {0}
HasClockName (Multicycle count setup by_launch from through to) = Unit {0}
HasClockName (MaxDelay amount from through to) = Unit {0}

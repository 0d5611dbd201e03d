-- What is known of each file of a design that is read.
use Rattle.std.specs.Prelude.{◌<◌, List, length, All}
use Rattle.bud_syntax.specs.Ranges.{IsReadKind, IsReadCommand}
use Rattle.bud_syntax.specs.declared.modules.Module.{Module}
use Rattle.bud_syntax.specs.declared.delays.SdfFile.{SdfFile}
use Rattle.bud_syntax.specs.declared.constraints.SdcFile.{SdcFile}
use Rattle.elaborations.specs.Ports.{HasPortsOnce}

-- fewer than 2^31 modules, each of which lists each port once
pub record IsNetlist (modules : List Module) : Type 0 where
  pub few : length modules < 2147483648
  pub ports : All HasPortsOnce modules

-- fewer than 2^31 entries, whose values are in their range
pub record IsDelayFile (file : SdfFile) : Type 0 where
  pub few : length file.rows < 2147483648
  pub ranges : All (λ row. IsReadKind row.kind) file.rows

abbrev pub IsConstraintFile : SdcFile → Type 0
IsConstraintFile file = All IsReadCommand file.commands

-- What the names in the files of a design are made of, so that they may stand in a certificate.
use Rattle.std.specs.Prelude.{ℕ, ◌<◌, List, length, All}
use Rattle.bud_design.specs.declared.designs.Pin.{Pin}
use Rattle.bud_design.specs.Designs.{pin_at}
use Rattle.bud_design.proofs.NameLaws.{IsShort}
use Rattle.budget_designs.specs.declared.design_files.DesignFiles.{DesignFiles}
use Rattle.clock_names.specs.ClockNames.{HasClockName}
use Rattle.netlist_names.specs.Identifiers.{HasIdentifiers}

-- the names of the netlist are identifiers, and those of clocks are of the alphabet of clocks
pub record HaveNames (files : DesignFiles) : Type 0 where
  pub netlist : All HasIdentifiers files.netlist
  pub clocks : All HasClockName files.constraints.commands

-- the numbers of bits are short
abbrev pub HaveShortBits : List Pin → Type 0
HaveShortBits pins = (k : ℕ) → k < length pins → IsShort (pin_at pins k).bit

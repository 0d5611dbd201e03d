-- The files of a design, read in order: its netlist, its delays, its timing constraints.
use Rattle.std.specs.Prelude.{ℕ, List, Option}
use Rattle.bud_shelf.specs.Outside.{Files}
use Rattle.bud_syntax.specs.declared.constraints.SdcFile.{SdcFile}
use Rattle.bud_syntax.specs.declared.delays.SdfFile.{SdfFile}
use Rattle.bud_syntax.specs.declared.modules.Module.{Module}
use Rattle.budget_steps.specs.Steps.{Course, ◌>>=◌, comes_to}
use Rattle.budget_steps.specs.Inputs.{Seen, input}
use Rattle.budget_designs.specs.declared.design_files.DesignFiles.{DesignFiles}
use Rattle.budget_designs.specs.Files.{netlists, delay_files, constraint_files}
use Rattle.budget_designs.specs.Inputs.{IsNetlist, IsDelayFile, IsConstraintFile}

abbrev pub files_with : List Module → SdfFile → SdcFile → DesignFiles
files_with modules delays constraints = record { netlist = modules; delays = delays; constraints = constraints }

-- read in this order
abbrev pub design_files : Seen (Option Files) → List ℕ → List ℕ → List ℕ → Course DesignFiles
design_files shelf netlist delay_file constraint_file = do
  modules ← input shelf netlists netlist
  delays ← input shelf delay_files delay_file
  constraints ← input shelf constraint_files constraint_file
  comes_to (files_with modules delays constraints)

-- what is known of each of the files
pub record AreDesignFiles (files : DesignFiles) : Type 0 where
  pub netlist : IsNetlist files.netlist
  pub delays : IsDelayFile files.delays
  pub constraints : IsConstraintFile files.constraints

-- The job `least`, from the bytes of its files.
use Rattle.std.specs.Prelude.{ℕ, List, Option}
use Rattle.bud_shelf.specs.Outside.{Files}
use Rattle.budget_steps.specs.declared.outcomes.Answer.{Answer}
use Rattle.budget_steps.specs.Steps.{Course, ◌>>=◌}
use Rattle.budget_steps.specs.Inputs.{Seen}
use Rattle.budget_designs.specs.declared.design_files.DesignFiles.{DesignFiles}
use Rattle.budget_designs.specs.DesignFiles.{design_files}
use Rattle.budget_designs.specs.TimedDesigns.{timed_design, whole}
use Rattle.budget_designs.specs.Slacks.{least_of}

-- what comes of the values of the files
abbrev pub least_in : DesignFiles → Course Answer
least_in files = do
  t ← timed_design files
  least_of (whole t)

-- `least V SDF SDC`
abbrev pub least_job : Seen (Option Files) → List ℕ → List ℕ → List ℕ → Course Answer
least_job shelf netlist delay_file constraint_file = do
  files ← design_files shelf netlist delay_file constraint_file
  least_in files

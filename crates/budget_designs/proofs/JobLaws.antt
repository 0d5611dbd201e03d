-- The job `least` by its steps in order.
use Rattle.std.proofs.Common.{◌≡◌, ℕ, List, [], Option, Ok}
use Rattle.bud_shelf.specs.Outside.{Files}
use Rattle.bud_design.specs.TimingPaths.{View}
use Rattle.budget_report.specs.Subjects.{bare}
use Rattle.budget_report.specs.declared.causes.Cause.TheVariants as cause
use Rattle.budget_steps.specs.declared.outcomes.Answer.{Answer}
use Rattle.budget_steps.specs.Inputs.{Seen}
use Rattle.budget_steps.proofs.JobLaws.{IsJob, then_job, after_step, last}
use Rattle.budget_designs.specs.declared.design_files.DesignFiles.{DesignFiles}
use Rattle.budget_designs.specs.DesignFiles.{design_files}
use Rattle.budget_designs.specs.Designs.{IsWithinLimits}
use Rattle.budget_designs.specs.TimedDesigns.{timed_design, whole}
use Rattle.budget_designs.specs.Slacks.{measured, least_of}
use Rattle.budget_designs.specs.Jobs.{least_in, least_job}
use Rattle.budget_designs.proofs.DesignFaults.{layer_fits}
use Rattle.budget_designs.proofs.DesignSteps.{limits_sure}
use Rattle.budget_designs.proofs.Measures.{measured_alike, measured_fits}
use Rattle.budget_designs.proofs.TimedLaws.{AreRead, HasSteps, files_source, timed_source}

view_is : (w : View) → IsJob (λ shelf. least_of w)
view_is w =
    after_step (IsWithinLimits w) bare (λ fault. cause.Layer fault) (λ _ shelf. measured w) (limits_sure w) layer_fits
    (λ _ _. last (measured w) (measured_alike w) (measured_fits w))

values_are : (files : DesignFiles) → IsJob (λ shelf. least_in files)
values_are files =
    then_job (HasSteps files) (λ shelf. timed_design files) (λ t shelf. least_of (whole t)) (timed_source files) (λ t _. view_is (whole t))

pub least_is : (netlist delay_file constraint_file : List ℕ) → IsJob (λ shelf. least_job shelf netlist delay_file constraint_file)
least_is netlist delay_file constraint_file =
    then_job AreRead (λ shelf. design_files shelf netlist delay_file constraint_file) (λ files shelf. least_in files)
    (files_source netlist delay_file constraint_file)
    (λ files _. values_are files)

-- it writes no file
pub least_quiet : (shelf : Seen (Option Files)) (netlist delay_file constraint_file : List ℕ) (answer : Answer) → least_job shelf netlist delay_file constraint_file (Ok answer) → answer.writes ≡ []
least_quiet shelf netlist delay_file constraint_file answer came = came.1.1.1.1.1.1.1

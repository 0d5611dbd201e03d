-- The jobs `plan` and `check` by their steps in order, and what they write.
use Rattle.std.proofs.Common.{◌≡◌, ◌⊎◌, ℕ, List, [], ◌∷◌, Option, Some, Ok, string_bytes, ap}
use Rattle.bud_shelf.specs.Outside.{Files, Rose}
use Rattle.budget_steps.specs.declared.outcomes.Answer.{Answer}
use Rattle.budget_steps.specs.declared.outcomes.Write.{Write}
use Rattle.budget_steps.specs.Inputs.{Seen, input, unfaulted}
use Rattle.budget_steps.specs.Steps.{◌>>=◌}
use Rattle.budget_steps.proofs.Courses.{Alike, alike_then}
use Rattle.budget_steps.proofs.JobLaws.{IsJob, after_input, last, then_job}
use Rattle.budget_designs.specs.DesignFiles.{design_files}
use Rattle.budget_designs.proofs.TimedLaws.{AreRead, files_source}
use Rattle.budget_plans.specs.Files.{policies, certificates}
use Rattle.budget_plans.specs.Layouts.{laid_out, layout}
use Rattle.budget_plans.specs.Plans.{met, planned}
use Rattle.budget_plans.specs.Verdicts.{verdict}
use Rattle.budget_plans.specs.Jobs.{check_in, check_job, plan_job}
use Rattle.budget_plans.proofs.LaidOut.{HasLayers, IsLayout, laid_source, layout_source}
use Rattle.budget_plans.proofs.Measures.{planned_alike, planned_fits, met_alike, answer_writes, IsDone}
use Rattle.budget_plans.proofs.PolicyFiles.{policies_are, certificates_are}
use Rattle.budget_plans.proofs.VerdictLaws.{verdict_job}

-- ---- the jobs
pub plan_is : (netlist delay_file constraint_file policy certificate : List ℕ) → IsJob (λ shelf. plan_job shelf netlist delay_file constraint_file policy certificate)
plan_is netlist delay_file constraint_file policy certificate =
    then_job IsLayout (λ shelf. layout shelf netlist delay_file constraint_file policy) (λ l shelf. planned l certificate)
    (layout_source netlist delay_file constraint_file policy)
    (λ l _. last (planned l certificate) (planned_alike l certificate) (planned_fits l certificate))

pub check_is : (netlist delay_file constraint_file policy certificate : List ℕ) → IsJob (λ shelf. check_job shelf netlist delay_file constraint_file policy certificate)
check_is netlist delay_file constraint_file policy certificate =
    then_job AreRead (λ shelf. design_files shelf netlist delay_file constraint_file)
    (λ files shelf. input shelf policies policy >>= λ lines. input shelf certificates certificate >>= λ cert. check_in files lines cert)
    (files_source netlist delay_file constraint_file)
    (λ files _.
    after_input policies policy (λ lines shelf. input shelf certificates certificate >>= λ cert. check_in files lines cert) policies_are
    (λ lines _.
    after_input certificates certificate (λ cert shelf. check_in files lines cert) certificates_are
    (λ cert _.
    then_job (HasLayers files lines) (λ shelf. laid_out files lines) (λ l shelf. verdict l cert) (laid_source files lines) (λ l _. verdict_job l cert))))

-- ---- what they write
-- the certificate, or nothing
pub plan_writes : (shelf : Seen (Option Files)) (netlist delay_file constraint_file policy certificate : List ℕ) (answer : Answer)
    → plan_job shelf netlist delay_file constraint_file policy certificate (Ok answer)
    → (answer.writes ≡ []) ⊎ ((file : Write) × ((answer.writes ≡ file ∷ []) × (string_bytes file.name ≡ certificate)))
plan_writes shelf netlist delay_file constraint_file policy certificate answer came =
    answer_writes came.0 certificate answer.said.status answer.said.text answer.writes came.1.1

pub check_quiet : (shelf : Seen (Option Files)) (netlist delay_file constraint_file policy certificate : List ℕ) (answer : Answer)
    → check_job shelf netlist delay_file constraint_file policy certificate (Ok answer) → answer.writes ≡ []
check_quiet shelf netlist delay_file constraint_file policy certificate answer came = ap (λ (a : Answer). a.writes) came.1.1.1.1.1.1.1.1.1

-- ---- a design that is laid out and meets is planned
pub met_job : (netlist delay_file constraint_file policy certificate : List ℕ) (files : Files) (new : Option Files) (before now : ℕ)
    → Alike IsDone (Rose before now) (plan_job (record { old = Some files; new = new; before = before; now = now }) netlist delay_file constraint_file policy certificate)
    (layout (unfaulted files) netlist delay_file constraint_file policy >>= met)
met_job netlist delay_file constraint_file policy certificate files new before now =
    alike_then IsDone (Rose before now)
    (layout (record { old = Some files; new = new; before = before; now = now }) netlist delay_file constraint_file policy)
    (layout (unfaulted files) netlist delay_file constraint_file policy)
    (λ l. planned l certificate)
    met
    ((layout_source netlist delay_file constraint_file policy).alike files new before now)
    (λ l _. met_alike l certificate (Rose before now))

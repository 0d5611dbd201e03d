-- The jobs `plan` and `check`, from the bytes of their files.
use Rattle.std.specs.Prelude.{ℕ, List, Option}
use Rattle.bud_shelf.specs.Outside.{Files}
use Rattle.bud_design.specs.declared.policies.Policy.{Policy}
use Rattle.budget_steps.specs.declared.outcomes.Answer.{Answer}
use Rattle.budget_steps.specs.Inputs.{Seen, input}
use Rattle.budget_steps.specs.Steps.{Course, ◌>>=◌}
use Rattle.budget_designs.specs.declared.design_files.DesignFiles.{DesignFiles}
use Rattle.budget_designs.specs.DesignFiles.{design_files}
use Rattle.budget_plans.specs.Files.{policies, certificates}
use Rattle.budget_plans.specs.Layouts.{laid_out, layout}
use Rattle.budget_plans.specs.Plans.{planned}
use Rattle.budget_plans.specs.Verdicts.{verdict}
use Rattle.cert_text.specs.declared.certs.Cert.{Cert}

-- `plan V SDF SDC POLICY CERT`
abbrev pub plan_job : Seen (Option Files) → List ℕ → List ℕ → List ℕ → List ℕ → List ℕ → Course Answer
plan_job shelf netlist delay_file constraint_file policy certificate = do
  l ← layout shelf netlist delay_file constraint_file policy
  planned l certificate

-- what comes of the values of the files
abbrev pub check_in : DesignFiles → Policy → Cert → Course Answer
check_in files policy cert = do
  l ← laid_out files policy
  verdict l cert

-- `check V SDF SDC POLICY CERT`
abbrev pub check_job : Seen (Option Files) → List ℕ → List ℕ → List ℕ → List ℕ → List ℕ → Course Answer
check_job shelf netlist delay_file constraint_file policy certificate = do
  files ← design_files shelf netlist delay_file constraint_file
  lines ← input shelf policies policy
  cert ← input shelf certificates certificate
  check_in files lines cert

-- The jobs, each as its steps in order.
use Rattle.std.specs.Prelude.{◌≡◌, ℕ, List, Option, Some, None, Ok, Err}
use Rattle.bud_base.specs.Paths.{Meets}
use Rattle.bud_base.specs.Soundness.{IsSound}
use Rattle.bud_base.specs.declared.problems.Problem.{Problem}
use Rattle.bud_shelf.specs.Outside.{Files}
use Rattle.budget_report.specs.declared.causes.Cause.TheVariants.{Words}
use Rattle.budget_report.specs.Subjects.{bare}
use Rattle.budget_steps.specs.declared.outcomes.Answer.{Answer}
use Rattle.budget_steps.specs.Steps.{Course, ◌>>=◌, ◌>>◌}
use Rattle.budget_steps.specs.Inputs.{Seen, input}
use Rattle.budget_plans.specs.Files.{certificates}
use Rattle.budget_top.specs.RawFiles.{problems}
use Rattle.budget_top.specs.Problems.{sound, measured, verdict}
use Rattle.budget_designs.specs.Jobs.{least_job}
use Rattle.budget_plans.specs.Jobs.{plan_job, check_job}
use Rattle.budget_plans.specs.Layouts.{layout}
use Rattle.budget_plans.specs.Plans.{met as laid_met}
use Rattle.budget_makes.specs.Jobs.{make_job}
use Rattle.budget_makes.specs.OwnFiles.{made_design, own_layout}
use Rattle.budget_top.specs.Words.{Asked, PlanNames, raw, prove, least, plan, check, make}

-- `raw P`
abbrev pub raw_job : Seen (Option Files) → List ℕ → Course Answer
raw_job shelf problem = do
  p ← input shelf problems problem
  sound p
  measured p

-- `prove P CERT`
abbrev pub prove_job : Seen (Option Files) → List ℕ → List ℕ → Course Answer
prove_job shelf problem cert = do
  p ← input shelf problems problem
  c ← input shelf certificates cert
  sound p
  verdict p c

-- the problem is sound, and no path of it is violated
abbrev pub met : Problem → Course (Unit {0})
met p (Ok _) = IsSound p × Meets p
met p (Err r) = ⊥

-- `raw` reads such a problem
abbrev pub met_raw : Seen (Option Files) → List ℕ → Course (Unit {0})
met_raw shelf problem = do
  p ← input shelf problems problem
  met p

-- `plan` reads a design that can be laid out under the policy, and no constrained path of it is violated
abbrev pub met_plan : Seen (Option Files) → PlanNames → Course (Unit {0})
met_plan shelf names = do
  l ← layout shelf names.netlist names.delays names.constraints names.policy
  laid_met l

-- the made design can be laid out, and no constrained path of it is violated
abbrev pub met_make : ℕ → ℕ → Course (Unit {0})
met_make gates number = do
  l ← own_layout (made_design gates number)
  laid_met l

-- a job without budgets
abbrev pub unbudgeted : Course (Unit {0})
unbudgeted r = ⊥

-- words that fit no job
abbrev pub misfit : Course Answer
misfit (Ok answer) = ⊥
misfit (Err r) = r ≡ record { subject = bare; cause = Words }

abbrev pub steps_of : Seen (Option Files) → Asked → Course Answer
steps_of shelf (raw problem) = raw_job shelf problem
steps_of shelf (prove problem cert) = prove_job shelf problem cert
steps_of shelf (least netlist delays constraints) = least_job shelf netlist delays constraints
steps_of shelf (plan names) = plan_job shelf names.netlist names.delays names.constraints names.policy names.cert
steps_of shelf (check names) = check_job shelf names.netlist names.delays names.constraints names.policy names.cert
steps_of shelf (make gates number) = make_job gates number

abbrev pub course : Seen (Option Files) → Option Asked → Course Answer
course shelf None = misfit
course shelf (Some asked) = steps_of shelf asked

-- the inputs of a job that finds budgets are accepted, and no path is violated at least delays
abbrev pub met_by : Seen (Option Files) → Asked → Course (Unit {0})
met_by shelf (raw problem) = met_raw shelf problem
met_by shelf (prove problem cert) = unbudgeted
met_by shelf (least netlist delays constraints) = unbudgeted
met_by shelf (plan names) = met_plan shelf names
met_by shelf (check names) = unbudgeted
met_by shelf (make gates number) = met_make gates number

-- the file that a job writes, where it writes one
abbrev pub output_of : Asked → Option (List ℕ)
output_of (raw problem) = None
output_of (prove problem cert) = None
output_of (least netlist delays constraints) = None
output_of (plan names) = Some names.cert
output_of (check names) = None
output_of (make gates number) = None

abbrev pub output : Option Asked → Option (List ℕ)
output None = None
output (Some asked) = output_of asked

-- What stands behind status 0 of the jobs with budgets of designs.
use Rattle.std.specs.Prelude.{ℕ, List, Option, Some, None, Ok}
use Rattle.bud_shelf.specs.Outside.{Files, IsFile}
use Rattle.cert_text.specs.Texts.{Reads}
use Rattle.cert_text.specs.declared.certs.Cert.{Cert}
use Rattle.budget_steps.specs.Inputs.{Seen, input}
use Rattle.budget_plans.specs.Files.{certificates}
use Rattle.budget_plans.specs.Layouts.{Laid, layout}
use Rattle.budget_plans.specs.Plans.{Certifies}
use Rattle.budget_top.specs.Words.{Asked, PlanNames, raw, prove, least, plan, check, make}

-- the files hold a design and a policy, for which the certificate holds: its budgets suit all constrained paths, and are best
pub record IsBestFor (names : PlanNames) (shelf : Seen (Option Files)) (cert : Cert) : Type 0 where
  pub laid : Laid
  pub laid_out : layout shelf names.netlist names.delays names.constraints names.policy (Ok laid)
  pub certifies : Certifies laid cert

-- a shelf that told its files has these bytes under this name afterwards
abbrev pub IsLeft : Option Files → Option Files → List ℕ → List ℕ → Type 0
IsLeft (Some old) new name bytes = IsFile new name bytes
IsLeft None new name bytes = Unit {0}

-- `plan` leaves a certificate of best budgets in its last file, and `check` read one there
abbrev pub HasBest : Option Asked → Seen (Option Files) → Type 0
HasBest None shelf = Unit {0}
HasBest (Some (raw problem)) shelf = Unit {0}
HasBest (Some (prove problem cert)) shelf = Unit {0}
HasBest (Some (least netlist delays constraints)) shelf = Unit {0}
HasBest (Some (make gates number)) shelf = Unit {0}
HasBest (Some (plan names)) shelf =
    (bytes : List ℕ) × ((cert : Cert) × (IsLeft shelf.old shelf.new names.cert bytes × (Reads bytes cert × IsBestFor names shelf cert)))
HasBest (Some (check names)) shelf = (cert : Cert) × (input shelf certificates names.cert (Ok cert) × IsBestFor names shelf cert)

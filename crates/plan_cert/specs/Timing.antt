-- The first arrival that doesn't suit.
use Rattle.std.specs.Prelude.{length}
use Rattle.bud_base.specs.declared.problems.Problem.{Problem}
use Rattle.bud_plans.specs.declared.plans.Plan.{Plan}
use Rattle.plan_cert.specs.Failures.{AllBelow, IsFirstFailure}
use Rattle.plan_cert.specs.Numbers.{HasItemArrival, HasStartArrival, HasEndArrival}
use Rattle.plan_cert.specs.declared.answers.CertFault.{CertFault}
use Rattle.plan_cert.specs.declared.answers.CertFault.TheVariants.{Arrival, Start as LateStart, End as LateEnd}

-- of items, then starts, then ends
abbrev pub IsLate : Problem → Plan → CertFault → Type 0
IsLate p plan (Arrival i) = IsFirstFailure (HasItemArrival p plan) (length p.items) i.0
IsLate p plan (LateStart s) = AllBelow (HasItemArrival p plan) (length p.items) × IsFirstFailure (HasStartArrival p plan) (length p.starts) s
IsLate p plan (LateEnd e) =
    AllBelow (HasItemArrival p plan) (length p.items) × AllBelow (HasStartArrival p plan) (length p.starts)
    × IsFirstFailure (HasEndArrival p plan) (length p.ends) e
IsLate p plan other = ⊥

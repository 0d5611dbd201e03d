-- Sums of products so far.
use Rattle.std.specs.Prelude.{◌≡◌, ℕ, ℤ, pos, negsuc, ◌+ℤ◌, ◌*◌, ◌≤ℤ◌}
use Rattle.bud_base.specs.declared.problems.Problem.{Problem}
use Rattle.bud_flow.specs.Sums.{sum_below}
use Rattle.bud_flow.specs.Flows.{value_of}
use Rattle.bud_plans.specs.Budgets.{weight_of}
use Rattle.bud_plans.specs.Plans.{flow_of}
use Rattle.bud_plans.specs.declared.plans.Plan.{Plan}
use Rattle.plan_cert.specs.Numbers.{IsWrongWeight}
use Rattle.plan_cert.specs.declared.answers.CertAnswer.{CertAnswer}
use Rattle.plan_cert.specs.declared.answers.CertAnswer.TheVariants.{Holds, Fault}
use Rattle.plan_cert.specs.declared.answers.CertFault.{CertFault}
use Rattle.plan_cert.specs.declared.answers.CertFault.TheVariants.{Weight}

-- a factor is within 2^45 either way
pub record IsFactor (number : ℤ) : Type 0 where
  pub low : negsuc 35184372088831 ≤ℤ number
  pub high : number ≤ℤ pos 35184372088832

-- a product is within 2^90 either way
pub record IsProduct (number : ℤ) : Type 0 where
  pub low : pos 0 ≤ℤ (number +ℤ pos 1237940039285380274899124224)
  pub high : number ≤ℤ pos 1237940039285380274899124224

-- the terms of the numbers below the count add up to the total, so many products
pub record IsTotal (term : ℕ → ℤ) (count : ℕ) (total : ℤ) : Type 0 where
  pub value : total ≡ sum_below count term
  pub low : pos 0 ≤ℤ (total +ℤ pos (1237940039285380274899124224 * count))
  pub high : total ≤ℤ pos (1237940039285380274899124224 * count)

-- the three weights are one
pub record AreOneWeight (p : Problem) (plan : Plan) (weight : ℤ) : Type 0 where
  pub written : plan.weight ≡ weight
  pub budgets : weight_of p plan.budgets ≡ weight
  pub flow : value_of p (flow_of plan) ≡ weight

abbrev pub IsWeightFault : Problem → Plan → CertFault → Type 0
IsWeightFault p plan (Weight weight other) = IsWrongWeight p plan weight other
IsWeightFault p plan other = ⊥

-- the three weights are one, or the two that differ
abbrev pub IsWeightAnswer : Problem → Plan → CertAnswer → Type 0
IsWeightAnswer p plan (Holds weight) = AreOneWeight p plan weight
IsWeightAnswer p plan (Fault fault) = IsWeightFault p plan fault

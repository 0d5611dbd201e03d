-- A sound problem meets at least delays, or some path of it is violated.
use Rattle.std.proofs.Common.{◌≡◌, ℕ, pos, ◌≤ℤ◌, ◌<ℤ◌, List, Ok, Err, arith, inl, inr, refl}
use Rattle.std.proofs.lemmas.Int.{ints}
use Rattle.bud_base.specs.Paths.{Path, IsPath, slack, least_of, Meets}
use Rattle.bud_base.specs.declared.problems.Problem.{Problem}
use Rattle.budget_report.specs.declared.statuses.Status.{Status}
use Rattle.budget_report.specs.declared.statuses.Status.TheVariants.{Done, Violated, Words}
use Rattle.budget_steps.specs.Outcomes.{Outcome, said_of}
use Rattle.budget_top.specs.Problems.{IsMeasured, measured}

-- what the paths of a sound problem say
data Measure (p : Problem) : Status → Type 0 where
  meets : ((path : Path) → IsPath p path → pos 0 ≤ℤ slack p (least_of p) path) → Measure p Done
  violated : (path : Path) → IsPath p path → slack p (least_of p) path <ℤ pos 0 → Measure p Violated

measure_of : (p : Problem) (status : Status) (text : List ℕ) → IsMeasured p status text → Measure p status
measure_of p Done text m = meets (elim m.1.1.0 [
  | inl none ↦ λ path is_path. absurd (none.0 path is_path)
  | inr least ↦ λ path is_path. omega (arith, ints, least.1.0.least path is_path, least.1.1)
])
measure_of p Violated text m = let found = m.1.1 in violated m.1.0 found.2.is_path (omega (arith, ints, found.2.has_slack, found.1))
measure_of p other text m = absurd m

one_measure : (p : Problem) (a b : Status) → Measure p a → Measure p b → a ≡ b
one_measure p _ _ (meets h) (meets h') = refl
one_measure p _ _ (meets h) (violated path is_path below) = absurd (omega (arith, ints, h path is_path, below))
one_measure p _ _ (violated path is_path below) (meets h) = absurd (omega (arith, ints, h path is_path, below))
one_measure p _ _ (violated path is_path below) (violated path' is_path' below') = refl

pub one_measured : (p : Problem) (a b : Status) (x y : List ℕ) → IsMeasured p a x → IsMeasured p b y → a ≡ b
one_measured p a b x y first second = one_measure p a b (measure_of p a x first) (measure_of p b y second)

pub meets_done : (p : Problem) (a : Status) (x : List ℕ) → Meets p → IsMeasured p a x → a ≡ Done
meets_done p a x good measured = one_measure p a Done (measure_of p a x measured) (meets good)

measure_fits : (p : Problem) (status : Status) → Measure p status → status ≡ Words → ⊥
measure_fits p _ (meets h) e = cc
measure_fits p _ (violated path is_path below) e = cc

pub measured_fits : (p : Problem) (outcome : Outcome) → measured p outcome → (said_of outcome).status ≡ Words → ⊥
measured_fits p (Ok answer) came e = measure_fits p answer.said.status (measure_of p answer.said.status answer.said.text came.0) e
measured_fits p (Err r) came e = absurd came

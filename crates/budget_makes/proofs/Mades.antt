-- What the constrained paths of a made design say of `make`: it is done, or a path is violated, and not both.
use Rattle.std.specs.Prelude.{ℤ, pos, ◌<ℤ◌}
use Rattle.std.proofs.Common.{◌≡◌, ℕ, List, [], Option, Some, None, Ok, Err, IfOk, Result, arith, inl, refl}
use Rattle.std.proofs.lemmas.Int.{ints}
use Rattle.std.specs.declared.alloc.AllocError.{AllocError}
use Rattle.bud_base.specs.Paths.{IsLeastSlack}
use Rattle.bud_design.specs.TimingPaths.{View}
use Rattle.bud_plans.specs.Plans.{IsHolding}
use Rattle.bud_plans.specs.declared.plans.Plan.{Plan}
use Rattle.bud_plans.proofs.Duality.{AreBest-from_plan}
use Rattle.budget_report.specs.declared.statuses.Status.{Status}
use Rattle.budget_report.specs.declared.statuses.Status.TheVariants.{Done, Violated, Words}
use Rattle.budget_steps.specs.declared.outcomes.Answer.{Answer}
use Rattle.budget_steps.specs.declared.outcomes.Stop.{Stop}
use Rattle.budget_steps.specs.Outcomes.{Outcome, done, said_of}
use Rattle.budget_steps.specs.Steps.{Follows}
use Rattle.budget_steps.proofs.Courses.{Within, Alike, follows_within}
use Rattle.budget_steps.proofs.JobLaws.{SameStatus}
use Rattle.budget_designs.specs.Layerings.{layer_measured}
use Rattle.budget_designs.proofs.Measures.{Measure, measure_of, one_measure, measure_fits}
use Rattle.budget_designs.proofs.Measures.Measure.{meets}
use Rattle.budget_plans.specs.declared.layouts.Layout.{Layout}
use Rattle.budget_plans.specs.Layouts.{Laid, IsLaid, laid_of, view_in}
use Rattle.budget_plans.specs.Plans.{IsMetSlack, IsPlanAnswer, met, planned}
use Rattle.budget_plans.proofs.Measures.{IsDone, meets_of, planned_violated}
use Rattle.layer_laws.proofs.DesignBudgets.{AreBestOfDesign-from_best}
use Rattle.budget_makes.specs.Makes.{IsBestPlan, IsMakeAnswer, made, made_text}

-- ---- one status
met_measure : (w : View) (slack : Option ℤ) → IsMetSlack w slack → Measure w Done
met_measure w None none = meets (λ path s has. absurd (none path has.room has.constrained))
met_measure w (Some x) least = meets (λ path s has. (let more = least.0.least path s has in omega (arith, ints, more, least.1)))

made_measure : (l : Laid) (gates registers : ℕ) (status : Status) (text : List ℕ) → IsMakeAnswer l gates registers status text → Measure (view_in l) status
made_measure l gates registers Done text p = met_measure (view_in l) p.slack p.met
made_measure l gates registers Violated text p = measure_of (view_in l) Violated text p
made_measure l gates registers other text p = absurd p

answer_measure : (l : Laid) (gates registers : ℕ) (a : Answer) → made l gates registers (Ok a) → Measure (view_in l) a.said.status
answer_measure l gates registers a came = made_measure l gates registers a.said.status a.said.text came.0

pub made_alike : (l : Laid) (gates registers : ℕ) → Alike SameStatus ⊥ (made l gates registers) (made l gates registers)
made_alike l gates registers (Ok a) (Ok b) x y =
    inl (one_measure (view_in l) a.said.status b.said.status (answer_measure l gates registers a x) (answer_measure l gates registers b y))
made_alike l gates registers (Ok a) (Err s) x y = absurd y
made_alike l gates registers (Err r) y' x y = absurd x

pub made_fits : (l : Laid) (gates registers : ℕ) (outcome : Outcome) → made l gates registers outcome → (said_of outcome).status ≡ Words → ⊥
made_fits l gates registers (Ok a) came e = measure_fits (view_in l) a.said.status (answer_measure l gates registers a came) e
made_fits l gates registers (Err r) came e = absurd came

-- a design that meets is done
pub made_met : (l : Laid) (gates registers : ℕ) (Unless : Type 0) → Alike IsDone Unless (made l gates registers) (met l)
made_met l gates registers Unless (Ok a) (Ok b) x y = inl (one_measure (view_in l) a.said.status Done (answer_measure l gates registers a x) (meets y))
made_met l gates registers Unless (Err r) (Ok b) x y = absurd x
made_met l gates registers Unless x' (Err s) x y = absurd y

-- ---- from the layering to the design
module _ (x : Layout) (laid : IsLaid x) where
  best_plan : (plan : Plan) → IsHolding x.layered.problem plan → IsBestPlan (laid_of x) plan
  best_plan plan holds = record {
    best = AreBestOfDesign-from_best (view_in (laid_of x)) x.layered laid.paths plan.budgets (AreBest-from_plan x.layered.problem plan laid.layered.problem holds);
    holds = holds;
  }

  pub solved_by : (r : Result Plan AllocError) → IfOk r (IsHolding x.layered.problem) → IfOk r (IsBestPlan (laid_of x))
  solved_by (Ok plan) holds = best_plan plan holds
  solved_by (Err e) holds = holds

  -- what `plan` says of a violated path is said here
  violated_answer : (s : ℤ) (gates registers : ℕ) (status : Status) (text : List ℕ) (a : Answer) → IsLeastSlack x.layered.problem s → s <ℤ pos 0
      → IsPlanAnswer (laid_of x) [] status text a.writes → IsMakeAnswer (laid_of x) gates registers status text × (a.writes ≡ [])
  violated_answer s gates registers Done text a least below p =
      (let path = least.attained in let more = meets_of x laid p.slack p.met path.0 path.1.is_path in absurd (omega (arith, ints, more, path.1.has_slack, below)))
  violated_answer s gates registers Violated text a least below p = p
  violated_answer s gates registers other text a least below p = absurd p

  pub made_violated : (s : ℤ) (gates registers : ℕ) (r : Result Answer Stop) → IsLeastSlack x.layered.problem s → s <ℤ pos 0
      → Follows (layer_measured x.layered x.design.flat x.design.constraints) r → Follows (made (laid_of x) gates registers) r
  made_violated s gates registers r least below came =
      follows_within (planned (laid_of x) []) (made (laid_of x) gates registers) r within (planned_violated x laid s [] r least below came)
    where
      within : Within (planned (laid_of x) []) (made (laid_of x) gates registers)
      within (Ok a) found = violated_answer s gates registers a.said.status a.said.text a least below found
      within (Err e) found = absurd found

-- the lines of a best plan
pub made_done : (l : Laid) (gates registers : ℕ) (slack : Option ℤ) (plan : Plan) (text : List ℕ) → IsMetSlack (view_in l) slack → IsBestPlan l plan
    → text ≡ made_text gates registers slack l plan → made l gates registers (Ok (done text))
made_done l gates registers slack plan text good best is = (record { slack = slack; met = good; plan = plan; best = best; text_is = is }, refl)

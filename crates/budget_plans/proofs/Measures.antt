-- What the constrained paths of a design say of a plan: it is done, or a path is violated, and not both.
use Rattle.std.specs.Prelude.{ℤ, pos, ◌≤ℤ◌, ◌<ℤ◌}
use Rattle.std.proofs.Common.{◌≡◌, ◌⊎◌, ℕ, List, [], ◌∷◌, length, Option, Some, None, Ok, Err, Result, string_bytes, arith, inl, inr}
use Rattle.std.proofs.lemmas.Int.{ints}
use Rattle.bud_base.specs.Paths.{IsLeastSlack, HasNoPath, Meets}
use Rattle.bud_base.specs.declared.problems.Problem.{Problem}
use Rattle.bud_design.specs.ConstraintRules.{AreSoundConstraints}
use Rattle.bud_design.specs.TimingPaths.{View}
use Rattle.budget_report.specs.declared.statuses.Status.{Status}
use Rattle.budget_report.specs.declared.statuses.Status.TheVariants.{Done, Violated, Words}
use Rattle.budget_steps.specs.declared.outcomes.Answer.{Answer}
use Rattle.budget_steps.specs.declared.outcomes.Stop.{Stop}
use Rattle.budget_steps.specs.declared.outcomes.Write.{Write}
use Rattle.budget_steps.specs.Outcomes.{Outcome, said_of}
use Rattle.budget_steps.specs.Steps.{Follows}
use Rattle.budget_steps.proofs.Courses.{Within, Alike, follows_within}
use Rattle.budget_steps.proofs.JobLaws.{SameStatus}
use Rattle.budget_designs.specs.Layerings.{IsLayeredMeasure, layer_measured}
use Rattle.budget_designs.specs.Slacks.{IsMeasured}
use Rattle.budget_designs.proofs.Measures.{Measure, measure_of, one_measure, measure_fits, measured_within}
use Rattle.budget_designs.proofs.Measures.Measure.{meets}
use Rattle.budget_plans.specs.declared.layouts.Layout.{Layout}
use Rattle.budget_plans.specs.Layouts.{Laid, IsLaid, laid_of, view_in}
use Rattle.budget_plans.specs.Plans.{IsMetSlack, IsPlanAnswer, met, planned}

-- ---- one status
met_measure : (w : View) (slack : Option ℤ) → IsMetSlack w slack → Measure w Done
met_measure w None none = meets (λ path s has. absurd (none path has.room has.constrained))
met_measure w (Some x) least = meets (λ path s has. (let more = least.0.least path s has in omega (arith, ints, more, least.1)))

planned_measure : (l : Laid) (name : List ℕ) (status : Status) (text : List ℕ) (writes : List Write) → IsPlanAnswer l name status text writes → Measure (view_in l) status
planned_measure l name Done text writes p = met_measure (view_in l) p.slack p.met
planned_measure l name Violated text writes p = measure_of (view_in l) Violated text p.0
planned_measure l name other text writes p = absurd p

answer_measure : (l : Laid) (name : List ℕ) (a : Answer) → planned l name (Ok a) → Measure (view_in l) a.said.status
answer_measure l name a came = planned_measure l name a.said.status a.said.text a.writes came

pub planned_alike : (l : Laid) (name : List ℕ) → Alike SameStatus ⊥ (planned l name) (planned l name)
planned_alike l name (Ok a) (Ok b) x y = inl (one_measure (view_in l) a.said.status b.said.status (answer_measure l name a x) (answer_measure l name b y))
planned_alike l name (Ok a) (Err s) x y = absurd y
planned_alike l name (Err r) y' x y = absurd x

pub planned_fits : (l : Laid) (name : List ℕ) (outcome : Outcome) → planned l name outcome → (said_of outcome).status ≡ Words → ⊥
planned_fits l name (Ok a) came e = measure_fits (view_in l) a.said.status (answer_measure l name a came) e
planned_fits l name (Err r) came e = absurd came

abbrev pub IsDone : Answer → Unit {0} → Type 0
IsDone answer _ = answer.said.status ≡ Done

-- a design that meets is planned
pub met_alike : (l : Laid) (name : List ℕ) (Unless : Type 0) → Alike IsDone Unless (planned l name) (met l)
met_alike l name Unless (Ok a) (Ok b) x y = inl (one_measure (view_in l) a.said.status Done (answer_measure l name a x) (meets y))
met_alike l name Unless (Err r) (Ok b) x y = absurd x
met_alike l name Unless x' (Err s) x y = absurd y

-- it writes the certificate, or nothing
pub answer_writes : (l : Laid) (name : List ℕ) (status : Status) (text : List ℕ) (writes : List Write) → IsPlanAnswer l name status text writes
    → (writes ≡ []) ⊎ ((file : Write) × ((writes ≡ file ∷ []) × (string_bytes file.name ≡ name)))
answer_writes l name Done text writes p = inr (p.written.file, (p.written.one, p.written.named))
answer_writes l name Violated text writes p = inl p.1
answer_writes l name other text writes p = absurd p

-- ---- from the layering to the design
module _ (x : Layout) (laid : IsLaid x) where
  abbrev problem : Problem
  problem = x.layered.problem

  pub met_none : HasNoPath problem → IsMetSlack (view_in (laid_of x)) None
  met_none none = laid.slack.none.0 none

  pub met_some : (s : ℤ) → IsLeastSlack problem s → pos 0 ≤ℤ s → IsMetSlack (view_in (laid_of x)) (Some s)
  met_some s least more = ((laid.slack.least s).0 least, more)

  -- the problem of the layering meets where the design does
  pub meets_of : (o : Option ℤ) → IsMetSlack (view_in (laid_of x)) o → Meets problem
  meets_of None none = λ path is_path. absurd (laid.slack.none.1 none path is_path)
  meets_of (Some s) least = λ path is_path. (let same = (laid.slack.least s).1 least.0 in let more = same.least path is_path in omega (arith, ints, more, least.1))

  layered_violated : (s : ℤ) (name : List ℕ) (status : Status) (text : List ℕ) (writes : List Write) → IsLeastSlack problem s → s <ℤ pos 0
      → IsLayeredMeasure x.layered x.design.flat x.design.constraints status text → IsMeasured (view_in (laid_of x)) status text → writes ≡ [] → IsPlanAnswer (laid_of x) name status text writes
  layered_violated s name Done text writes least below (inl none) over quiet = (let path = least.attained in absurd (none.0 path.0 path.1.is_path))
  layered_violated s name Done text writes least below (inr other) over quiet =
      (let path = least.attained in let more = other.1.0.least path.0 path.1.is_path in absurd (omega (arith, ints, more, path.1.has_slack, other.1.1, below)))
  layered_violated s name Violated text writes least below found over quiet = (over, quiet)
  layered_violated s name other text writes least below found over quiet = absurd found

  pub planned_violated : (s : ℤ) (name : List ℕ) (r : Result Answer Stop) → IsLeastSlack problem s → s <ℤ pos 0
      → Follows (layer_measured x.layered x.design.flat x.design.constraints) r → Follows (planned (laid_of x) name) r
  planned_violated s name r least below came =
      follows_within (layer_measured x.layered x.design.flat x.design.constraints) (planned (laid_of x) name) r within came
    where
      sound : AreSoundConstraints (length x.design.flat.pins) x.design.constraints
      sound = laid.design.constraints

      within : Within (layer_measured x.layered x.design.flat x.design.constraints) (planned (laid_of x) name)
      within (Ok a) found =
          let over = measured_within (view_in (laid_of x)) x.policy x.layered laid.layering sound.numbers sound.apart sound.one_launch laid.paths laid.slack (Ok a) found in
          layered_violated s name a.said.status a.said.text a.writes least below found.0 over.0 over.1
      within (Err r) found = absurd found

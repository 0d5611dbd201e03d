-- A plan all of whose parts are checked.
use Rattle.std.proofs.Common.{◌≡◌, ℕ, ℤ, List, length, arith, sym, ◌∙◌}
use Rattle.std.proofs.lemmas.List.{length-map}
use Rattle.std.proofs.lemmas.List.Elements.{All-from_get_or}
use Rattle.std.specs.Prelude.{All, pos}
use Rattle.bud_base.specs.Soundness.{IsSound}
use Rattle.bud_base.specs.declared.problems.Problem.{Problem}
use Rattle.bud_flow.specs.Sums.{number_at}
use Rattle.bud_flow.specs.Flows.{IsFlowOf, IsNonNegative, IsBalanced}
use Rattle.bud_plans.specs.Budgets.{IsWithinBounds, AreWithinBounds, SuitBudgets, AreBest}
use Rattle.bud_plans.specs.Plans.{flow_of}
use Rattle.bud_plans.specs.declared.plans.Plan.{Plan}
use Rattle.bud_plans.proofs.Duality.{AreBest-from_plan}
use Rattle.cert_text.specs.Certs.{plan_in}
use Rattle.plan_cert.specs.Failures.{AllBelow}
use Rattle.plan_cert.specs.Numbers.{HasCounts, HasFlows, IsKeptAt, IsNumbersAnswer, OnHolds}
use Rattle.plan_cert.specs.Totals.{IsWeightAnswer}
use Rattle.cert_text.specs.declared.certs.Cert.{Cert}
use Rattle.plan_cert.specs.declared.answers.CertAnswer.{CertAnswer}
use Rattle.plan_cert.specs.declared.answers.CertAnswer.TheVariants.{Holds, Fault}
use Rattle.plan_cert.specs.declared.answers.CertFault.TheVariants.{Version, Shape, Bounds, Arrival, Start as LateStart, End as LateEnd, NegativeFlow, Balance, Weight}

-- the lists of the lines have the problem's lengths
pub IsFlowOf-from_counts : (p : Problem) (cert : Cert) → HasCounts p cert → IsFlowOf p (flow_of (plan_in cert))
IsFlowOf-from_counts p cert counts = record {
  items = simp length-map counts.items;
  starts = simp length-map counts.starts;
  ends = simp length-map counts.ends;
}

pub AreWithinBounds-from_all : (p : Problem) (cert : Cert) → HasCounts p cert → AllBelow (IsWithinBounds p (plan_in cert).budgets) (length p.items) → AreWithinBounds p (plan_in cert).budgets
AreWithinBounds-from_all p cert counts bounds = record { size = simp length-map counts.items; each = bounds }

-- what holds of each number below a list's length holds of all of the list
all_of : (numbers : List ℤ) (count : ℕ) → length numbers ≡ count → AllBelow (λ k. IsNonNegative (number_at numbers k)) count → All IsNonNegative numbers
all_of numbers count size each = All-from_get_or IsNonNegative numbers (pos 0) (λ k within. each k (omega arith))

pub IsBalanced-from_all : (p : Problem) (cert : Cert) → HasCounts p cert → HasFlows p (plan_in cert) → AllBelow (IsKeptAt p (plan_in cert)) p.nodes → IsBalanced p (flow_of (plan_in cert))
IsBalanced-from_all p cert counts flows kept =
    let sizes : IsFlowOf p (flow_of (plan_in cert)) = IsFlowOf-from_counts p cert counts in
    record {
      sizes = sizes;
      items = all_of (plan_in cert).flow (length p.items) sizes.items flows.items;
      starts = all_of (plan_in cert).start_flow (length p.starts) sizes.starts flows.starts;
      ends = all_of (plan_in cert).end_flow (length p.ends) sizes.ends flows.ends;
      kept = kept;
    }

-- with all else checked, the comparison of the weights decides
pub IsNumbersAnswer-from_weights : (p : Problem) (cert : Cert) (answer : CertAnswer) → HasCounts p cert
    → AllBelow (IsWithinBounds p (plan_in cert).budgets) (length p.items) → SuitBudgets p (plan_in cert).budgets (plan_in cert).arrivals
    → HasFlows p (plan_in cert) → AllBelow (IsKeptAt p (plan_in cert)) p.nodes → IsWeightAnswer p (plan_in cert) answer → IsNumbersAnswer p (plan_in cert) answer
IsNumbersAnswer-from_weights p cert (Holds weight) counts bounds suits flows kept one = (
  record {
    bounds = AreWithinBounds-from_all p cert counts bounds;
    arrivals = suits;
    balanced = IsBalanced-from_all p cert counts flows kept;
    weight = one.budgets ∙ sym one.written;
    value = one.flow ∙ sym one.written;
  },
  one.written,
)
IsNumbersAnswer-from_weights p cert (Fault (Weight weight other)) counts bounds suits flows kept wrong =
    (AreWithinBounds-from_all p cert counts bounds, suits, IsBalanced-from_all p cert counts flows kept, wrong)
IsNumbersAnswer-from_weights p cert (Fault (Version a b)) counts bounds suits flows kept wrong = absurd wrong
IsNumbersAnswer-from_weights p cert (Fault (Shape place)) counts bounds suits flows kept wrong = absurd wrong
IsNumbersAnswer-from_weights p cert (Fault (Bounds i)) counts bounds suits flows kept wrong = absurd wrong
IsNumbersAnswer-from_weights p cert (Fault (Arrival i)) counts bounds suits flows kept wrong = absurd wrong
IsNumbersAnswer-from_weights p cert (Fault (LateStart s)) counts bounds suits flows kept wrong = absurd wrong
IsNumbersAnswer-from_weights p cert (Fault (LateEnd e)) counts bounds suits flows kept wrong = absurd wrong
IsNumbersAnswer-from_weights p cert (Fault (NegativeFlow place)) counts bounds suits flows kept wrong = absurd wrong
IsNumbersAnswer-from_weights p cert (Fault (Balance node)) counts bounds suits flows kept wrong = absurd wrong

-- the budgets of a certificate that holds are best
pub AreBest-on_holds : (p : Problem) (plan : Plan) (answer : CertAnswer) → IsSound p → IsNumbersAnswer p plan answer → OnHolds answer (AreBest p plan.budgets)
AreBest-on_holds p plan (Holds weight) sound holds = AreBest-from_plan p plan sound holds.0
AreBest-on_holds p plan (Fault fault) sound wrong = tt

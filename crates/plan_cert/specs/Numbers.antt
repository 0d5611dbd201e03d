-- The numbers of a certificate: when they hold, and the first fault of them.
use Rattle.std.specs.Prelude.{◌≡◌, ◌≢◌, ℕ, ℤ, ◌⊎◌, length}
use Rattle.bud_base.specs.declared.problems.Problem.{Problem}
use Rattle.bud_flow.specs.Sums.{number_at}
use Rattle.bud_flow.specs.Flows.{IsNonNegative, IsBalanced, flow_into, flow_out_of, value_of}
use Rattle.bud_flow.specs.Arrivals.{SuitsItem, SuitsStart, SuitsEnd}
use Rattle.bud_plans.specs.Budgets.{IsWithinBounds, AreWithinBounds, SuitBudgets, budget_in, weight_of}
use Rattle.bud_plans.specs.Plans.{IsHolding, flow_of}
use Rattle.bud_plans.specs.declared.plans.Plan.{Plan}
use Rattle.plan_cert.specs.Failures.{AllBelow, IsFirstFailure}
use Rattle.cert_text.specs.declared.certs.Cert.{Cert}
use Rattle.plan_cert.specs.declared.answers.CertAnswer.{CertAnswer}
use Rattle.plan_cert.specs.declared.answers.CertAnswer.TheVariants.{Holds, Fault}
use Rattle.plan_cert.specs.declared.answers.CertFault.{CertFault}
use Rattle.plan_cert.specs.declared.answers.CertFault.TheVariants.{Version, Shape, Bounds, Arrival, Start as LateStart, End as LateEnd, NegativeFlow, Balance, Weight}
use Rattle.plan_cert.specs.declared.answers.CertPlace.{CertPlace}
use Rattle.plan_cert.specs.declared.answers.CertPlace.TheVariants.{Class, Node, Item, Start, End, Count}

-- there are as many lines as the problem has nodes, items, starts and ends
pub record HasCounts (p : Problem) (cert : Cert) : Type 0 where
  pub nodes : length cert.nodes ≡ p.nodes
  pub items : length cert.items ≡ length p.items
  pub starts : length cert.starts ≡ length p.starts
  pub ends : length cert.ends ≡ length p.ends

-- the item's budget is over before the arrival at its last node; the start's and the end's node have suiting arrivals
abbrev pub HasItemArrival : Problem → Plan → ℕ → Type 0
HasItemArrival p plan i = SuitsItem p (budget_in plan.budgets) (number_at plan.arrivals) i

abbrev pub HasStartArrival : Problem → Plan → ℕ → Type 0
HasStartArrival p plan s = SuitsStart p (number_at plan.arrivals) s

abbrev pub HasEndArrival : Problem → Plan → ℕ → Type 0
HasEndArrival p plan e = SuitsEnd p (number_at plan.arrivals) e

-- the number at this index is at least 0
abbrev pub IsFlowAt : Plan → ℕ → Type 0
IsFlowAt plan i = IsNonNegative (number_at plan.flow i)

abbrev pub IsStartFlowAt : Plan → ℕ → Type 0
IsStartFlowAt plan s = IsNonNegative (number_at plan.start_flow s)

abbrev pub IsEndFlowAt : Plan → ℕ → Type 0
IsEndFlowAt plan e = IsNonNegative (number_at plan.end_flow e)

-- the first flow below 0, of items, then starts, then ends
abbrev pub IsNegativeFlow : Problem → Plan → CertPlace → Type 0
IsNegativeFlow p plan (Class k) = ⊥
IsNegativeFlow p plan (Node k) = ⊥
IsNegativeFlow p plan (Item i) = IsFirstFailure (IsFlowAt plan) (length p.items) i
IsNegativeFlow p plan (Start s) = AllBelow (IsFlowAt plan) (length p.items) × IsFirstFailure (IsStartFlowAt plan) (length p.starts) s
IsNegativeFlow p plan (End e) = AllBelow (IsFlowAt plan) (length p.items) × AllBelow (IsStartFlowAt plan) (length p.starts) × IsFirstFailure (IsEndFlowAt plan) (length p.ends) e
IsNegativeFlow p plan Count = ⊥

-- no flow is below 0
pub record HasFlows (p : Problem) (plan : Plan) : Type 0 where
  pub items : AllBelow (IsFlowAt plan) (length p.items)
  pub starts : AllBelow (IsStartFlowAt plan) (length p.starts)
  pub ends : AllBelow (IsEndFlowAt plan) (length p.ends)

-- as much comes into the node as goes out
abbrev pub IsKeptAt : Problem → Plan → ℕ → Type 0
IsKeptAt p plan node = flow_into p (flow_of plan) node ≡ flow_out_of p (flow_of plan) node

-- the budgets weigh the first number, and the second is the first that differs from it of the written weight and the flow's value
pub record IsWrongWeight (p : Problem) (plan : Plan) (weight other : ℤ) : Type 0 where
  pub weight_is : weight_of p plan.budgets ≡ weight
  pub other_is : (plan.weight ≡ other) ⊎ ((plan.weight ≡ weight) × (value_of p (flow_of plan) ≡ other))
  pub differs : weight ≢ other

-- a fault of the numbers
abbrev pub IsWrongNumber : Problem → Plan → CertFault → Type 0
IsWrongNumber p plan (Version a b) = ⊥
IsWrongNumber p plan (Shape place) = ⊥
IsWrongNumber p plan (Bounds i) = IsFirstFailure (IsWithinBounds p plan.budgets) (length p.items) i.0
IsWrongNumber p plan (Arrival i) = AreWithinBounds p plan.budgets × IsFirstFailure (HasItemArrival p plan) (length p.items) i.0
IsWrongNumber p plan (LateStart s) =
    AreWithinBounds p plan.budgets × AllBelow (HasItemArrival p plan) (length p.items)
    × IsFirstFailure (HasStartArrival p plan) (length p.starts) s
IsWrongNumber p plan (LateEnd e) =
    AreWithinBounds p plan.budgets × AllBelow (HasItemArrival p plan) (length p.items) × AllBelow (HasStartArrival p plan) (length p.starts)
    × IsFirstFailure (HasEndArrival p plan) (length p.ends) e
IsWrongNumber p plan (NegativeFlow place) =
    AreWithinBounds p plan.budgets × SuitBudgets p plan.budgets plan.arrivals × IsNegativeFlow p plan place
IsWrongNumber p plan (Balance node) =
    AreWithinBounds p plan.budgets × SuitBudgets p plan.budgets plan.arrivals × HasFlows p plan
    × IsFirstFailure (IsKeptAt p plan) p.nodes node.0
IsWrongNumber p plan (Weight weight other) =
    AreWithinBounds p plan.budgets × SuitBudgets p plan.budgets plan.arrivals × IsBalanced p (flow_of plan)
    × IsWrongWeight p plan weight other

-- the plan holds and its weight, or its first fault
abbrev pub IsNumbersAnswer : Problem → Plan → CertAnswer → Type 0
IsNumbersAnswer p plan (Holds weight) = IsHolding p plan × (plan.weight ≡ weight)
IsNumbersAnswer p plan (Fault fault) = IsWrongNumber p plan fault

-- the fact where the certificate holds
abbrev pub OnHolds : CertAnswer → Type 0 → Type 0
OnHolds (Holds weight) fact = fact
OnHolds (Fault fault) fact = Unit {0}

-- the fact of the weight where the certificate holds
abbrev pub IfHolds : CertAnswer → (ℤ → Type 0) → Type 0
IfHolds (Holds weight) Fact = Fact weight
IfHolds (Fault fault) Fact = Unit {0}

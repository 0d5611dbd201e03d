-- What a plan takes from a network.
use Rattle.std.specs.Prelude.{◌≡◌, ℕ, ℤ, ◌<◌, ◌-ℤ◌, List, length, int_lt, if◌then◌else◌}
use Rattle.bud_base.specs.Paths.{item_at}
use Rattle.bud_base.specs.declared.problems.Item.{Item}
use Rattle.bud_base.specs.declared.problems.Problem.{Problem}
use Rattle.bud_flow.specs.Sums.{number_at}
use Rattle.bud_plans.specs.declared.plans.Plan.{Plan}
use Rattle.residual.specs.Networks.{Network, item_flow_at, start_flow_at, end_flow_at}

-- what the potentials gain along an item
abbrev pub gain_along : List ℤ → Item → ℤ
gain_along potentials x = number_at potentials x.to.0 -ℤ number_at potentials x.from.0

-- the lesser of the item's greatest and what the potentials gain along it
abbrev pub budget_by : List ℤ → Item → ℤ
budget_by potentials x = if int_lt (gain_along potentials x) x.greatest then gain_along potentials x else x.greatest

-- the budgets are those by the network's potentials
pub record HasBudgets (net : Network) (p : Problem) (plan : Plan) : Type 0 where
  pub each : (i : ℕ) → i < length p.items → number_at plan.budgets i ≡ budget_by net.potentials (item_at p.items i)

-- the arrivals are the potentials of the nodes
pub record HasPotentials (net : Network) (plan : Plan) : Type 0 where
  pub each : (v : ℕ) → v < net.nodes → number_at plan.arrivals v ≡ number_at net.potentials v

-- the flows are those of the network
pub record HasFlows (net : Network) (plan : Plan) : Type 0 where
  pub items : (i : ℕ) → i < net.items → number_at plan.flow i ≡ item_flow_at net i
  pub starts : (s : ℕ) → s < net.starts → number_at plan.start_flow s ≡ start_flow_at net s
  pub ends : (e : ℕ) → e < net.ends → number_at plan.end_flow e ≡ end_flow_at net e

-- Running sums of a plan's flow at the nodes.
use Rattle.std.specs.Prelude.{◌≡◌, ℕ, ℤ, pos, ◌+ℤ◌, ◌-ℤ◌, ◌≤ℤ◌, ◌<◌, List, length}
use Rattle.bud_base.specs.Paths.{item_at, start_at, end_at}
use Rattle.bud_base.specs.declared.problems.Problem.{Problem}
use Rattle.bud_flow.specs.Sums.{sum_at, number_at}
use Rattle.bud_plans.specs.declared.plans.Plan.{Plan}

-- the number is within 2^100 either way
pub record IsNodeSum (number : ℤ) : Type 0 where
  pub low : pos 0 ≤ℤ (number +ℤ pos 1267650600228229401496703205376)
  pub high : number ≤ℤ pos 1267650600228229401496703205376

-- there is one sum for each node, and it is what the term says
pub record AreSums (nodes : ℕ) (sums : List ℤ) (term : ℕ → ℤ) : Type 0 where
  pub size : length sums ≡ nodes
  pub each : (node : ℕ) → node < nodes → number_at sums node ≡ term node

-- what the items below the number bring to a node, less what they take away
abbrev pub items_sum : Problem → Plan → ℕ → ℕ → ℤ
items_sum p plan count node =
    sum_at count (λ i. (item_at p.items i).to.0) (number_at plan.flow) node
    -ℤ sum_at count (λ i. (item_at p.items i).from.0) (number_at plan.flow) node

-- what all items bring less what they take away, and what the starts below the number bring
abbrev pub inflow_sum : Problem → Plan → ℕ → ℕ → ℤ
inflow_sum p plan count node =
    items_sum p plan (length p.items) node
    +ℤ sum_at count (λ s. (start_at p.starts s).node.0) (number_at plan.start_flow) node

-- what all items and starts bring, less what items and the ends below the number take away
abbrev pub excess_sum : Problem → Plan → ℕ → ℕ → ℤ
excess_sum p plan count node =
    inflow_sum p plan (length p.starts) node
    -ℤ sum_at count (λ e. (end_at p.ends e).node.0) (number_at plan.end_flow) node

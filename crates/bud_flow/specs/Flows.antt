-- Flows of a problem: balance and value.
use Rattle.std.specs.Prelude.{◌≡◌, ℕ, ℤ, pos, ◌+ℤ◌, ◌-ℤ◌, ◌*ℤ◌, ◌≤ℤ◌, ◌<◌, List, length, int_lt, All, if◌then◌else◌}
use Rattle.bud_base.specs.Paths.{item_at, start_at, end_at}
use Rattle.bud_base.specs.declared.problems.Item.{Item}
use Rattle.bud_base.specs.declared.problems.Problem.{Problem}
use Rattle.bud_flow.specs.Sums.{sum_below, sum_at, number_at}

-- what each item, each start and each end carries
pub record Flow : Type 0 where
  pub items : List ℤ
  pub starts : List ℤ
  pub ends : List ℤ

-- what the items that lead to the node and the starts at it carry
abbrev pub flow_into : Problem → Flow → ℕ → ℤ
flow_into p flow node =
    sum_at (length p.items) (λ i. (item_at p.items i).to.0) (number_at flow.items) node
    +ℤ sum_at (length p.starts) (λ s. (start_at p.starts s).node.0) (number_at flow.starts) node

-- what the items that leave the node and the ends at it carry
abbrev pub flow_out_of : Problem → Flow → ℕ → ℤ
flow_out_of p flow node =
    sum_at (length p.items) (λ i. (item_at p.items i).from.0) (number_at flow.items) node
    +ℤ sum_at (length p.ends) (λ e. (end_at p.ends e).node.0) (number_at flow.ends) node

-- how much more comes into the node than leaves it
abbrev pub excess : Problem → Flow → ℕ → ℤ
excess p flow node = flow_into p flow node -ℤ flow_out_of p flow node

-- the items, starts and ends stand at nodes of the problem
pub record StandsAtNodes (p : Problem) : Type 0 where
  pub from : (i : ℕ) → i < length p.items → (item_at p.items i).from.0 < p.nodes
  pub to : (i : ℕ) → i < length p.items → (item_at p.items i).to.0 < p.nodes
  pub starts : (s : ℕ) → s < length p.starts → (start_at p.starts s).node.0 < p.nodes
  pub ends : (e : ℕ) → e < length p.ends → (end_at p.ends e).node.0 < p.nodes

-- the flow times what numbers at the nodes gain along the items, and times the numbers at the starts, less those at the ends
abbrev pub gain_of : Problem → Flow → (ℕ → ℤ) → ℤ
gain_of p flow x =
    sum_below (length p.items) (λ i. number_at flow.items i *ℤ (x (item_at p.items i).to.0 -ℤ x (item_at p.items i).from.0))
    +ℤ sum_below (length p.starts) (λ s. number_at flow.starts s *ℤ x (start_at p.starts s).node.0)
    -ℤ sum_below (length p.ends) (λ e. number_at flow.ends e *ℤ x (end_at p.ends e).node.0)

-- the flow has one number for each item, start and end
pub record IsFlowOf (p : Problem) (flow : Flow) : Type 0 where
  pub items : length flow.items ≡ length p.items
  pub starts : length flow.starts ≡ length p.starts
  pub ends : length flow.ends ≡ length p.ends

abbrev pub IsNonNegative : ℤ → Type 0
IsNonNegative number = pos 0 ≤ℤ number

-- the flow is at least 0 everywhere, and at each node as much comes in as goes out
pub record IsBalanced (p : Problem) (flow : Flow) : Type 0 where
  pub sizes : IsFlowOf p flow
  pub items : All IsNonNegative flow.items
  pub starts : All IsNonNegative flow.starts
  pub ends : All IsNonNegative flow.ends
  pub kept : (node : ℕ) → node < p.nodes → flow_into p flow node ≡ flow_out_of p flow node

-- (weight - flow)*greatest where the item's flow is below its weight, else less (flow - weight)*least
abbrev pub item_value : Item → ℤ → ℤ
item_value x f =
    if int_lt f (pos x.weight) then (pos x.weight -ℤ f) *ℤ x.greatest
    else pos 0 -ℤ (f -ℤ pos x.weight) *ℤ x.least

-- flow*require over the ends, less flow*offset over the starts, and the values of the items
abbrev pub value_of : Problem → Flow → ℤ
value_of p flow =
    sum_below (length p.ends) (λ e. number_at flow.ends e *ℤ (end_at p.ends e).require)
    -ℤ sum_below (length p.starts) (λ s. number_at flow.starts s *ℤ (start_at p.starts s).offset)
    +ℤ sum_below (length p.items) (λ i. item_value (item_at p.items i) (number_at flow.items i))

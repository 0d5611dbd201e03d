-- Budgets of a problem: when they fit, what they weigh, and when they are best.
use Rattle.std.specs.Prelude.{◌≡◌, ℕ, ℤ, pos, ◌*ℤ◌, ◌≤ℤ◌, ◌<◌, List, length}
use Rattle.bud_base.specs.Arrivals.{AreSuiting}
use Rattle.bud_base.specs.Paths.{Path, IsPath, sum_along, room, item_at}
use Rattle.bud_base.specs.declared.ids.ItemId.{ItemId}
use Rattle.bud_base.specs.declared.problems.Problem.{Problem}
use Rattle.bud_flow.specs.Sums.{sum_below, number_at}

-- the budget of an item
abbrev pub budget_in : List ℤ → ItemId → ℤ
budget_in budgets i = number_at budgets i.0

-- the budget lies between the item's least and its greatest
pub record IsWithinBounds (p : Problem) (budgets : List ℤ) (i : ℕ) : Type 0 where
  pub low : (item_at p.items i).least ≤ℤ number_at budgets i
  pub high : number_at budgets i ≤ℤ (item_at p.items i).greatest

-- there is one budget for each item, within its bounds
pub record AreWithinBounds (p : Problem) (budgets : List ℤ) : Type 0 where
  pub size : length budgets ≡ length p.items
  pub each : (i : ℕ) → i < length p.items → IsWithinBounds p budgets i

-- the budgets are within bounds, and along each path they add up to at most its room
pub record Fit (p : Problem) (budgets : List ℤ) : Type 0 where
  pub bounds : AreWithinBounds p budgets
  pub paths : (path : Path) → IsPath p path → sum_along (budget_in budgets) path.items ≤ℤ room p path

-- weight times budget over the items
abbrev pub weight_of : Problem → List ℤ → ℤ
weight_of p budgets = sum_below (length p.items) (λ i. pos (item_at p.items i).weight *ℤ number_at budgets i)

-- the budgets fit, and no budgets that fit weigh more
pub record AreBest (p : Problem) (budgets : List ℤ) : Type 0 where
  pub fit : Fit p budgets
  pub most : (others : List ℤ) → Fit p others → weight_of p others ≤ℤ weight_of p budgets

-- there is one arrival for each node, and they suit the budgets
pub record SuitBudgets (p : Problem) (budgets arrivals : List ℤ) : Type 0 where
  pub size : length arrivals ≡ p.nodes
  pub suit : AreSuiting p (budget_in budgets) (number_at arrivals)

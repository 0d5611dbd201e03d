-- Budgets of a layering, judged over the constrained paths of the design.
use Rattle.std.specs.Prelude.{ℤ, ◌≤ℤ◌, List}
use Rattle.bud_base.specs.Paths.{Path, IsPath, sum_along}
use Rattle.bud_plans.specs.Budgets.{AreWithinBounds, budget_in, weight_of}
use Rattle.bud_design.specs.declared.layers.Layered.{Layered}
use Rattle.bud_design.specs.Correspondences.{StandsFor}
use Rattle.bud_design.specs.TimingPaths.{View, TimingPath, IsConstrained}

-- the path has items, one for each of its arcs, whose budgets add up to at most the room
pub record MeetsRoom (w : View) (layered : Layered) (budgets : List ℤ) (path : TimingPath) (room : ℤ) : Type 0 where
  pub items : Path
  pub is_path : IsPath layered.problem items
  pub stands : StandsFor w layered items path
  pub within : sum_along (budget_in budgets) items.items ≤ℤ room

-- there is one budget for each item, within its bounds, and every constrained path meets its room
pub record FitDesign (w : View) (layered : Layered) (budgets : List ℤ) : Type 0 where
  pub bounds : AreWithinBounds layered.problem budgets
  pub paths : (path : TimingPath) (room : ℤ) → IsConstrained w path room → MeetsRoom w layered budgets path room

-- they fit the design, and no budgets that do weigh more
pub record AreBestOfDesign (w : View) (layered : Layered) (budgets : List ℤ) : Type 0 where
  pub fit : FitDesign w layered budgets
  pub most : (others : List ℤ) → FitDesign w layered others → weight_of layered.problem others ≤ℤ weight_of layered.problem budgets

-- Budgets that are best over the paths of a layering are best over the constrained paths of its design, and the other way round.
use Rattle.std.specs.Prelude.{ℤ, ◌≤ℤ◌, List}
use Rattle.std.proofs.Common.{sym, subst}
use Rattle.bud_base.specs.Paths.{Path, sum_along, room}
use Rattle.bud_plans.specs.Budgets.{Fit, AreBest, budget_in}
use Rattle.bud_design.specs.declared.layers.Layered.{Layered}
use Rattle.bud_design.specs.Correspondences.{Correspond}
use Rattle.bud_design.specs.TimingPaths.{View}
use Rattle.layer_laws.specs.DesignBudgets.{FitDesign, AreBestOfDesign}

module _ (w : View) (layered : Layered) (correspond : Correspond w layered) where
  pub FitDesign-from_fit : (budgets : List ℤ) → Fit layered.problem budgets → FitDesign w layered budgets
  FitDesign-from_fit budgets fit = record {
    bounds = fit.bounds;
    paths = λ path r constrained.
        let there = correspond.onto path r constrained in
        record {
          items = there.0;
          is_path = there.1.0;
          stands = there.1.1;
          within = subst (λ z. sum_along (budget_in budgets) there.0.items ≤ℤ z) there.1.2 (fit.paths there.0 there.1.0);
        };
  }

  pub Fit-from_design : (budgets : List ℤ) → FitDesign w layered budgets → Fit layered.problem budgets
  Fit-from_design budgets fit = record {
    bounds = fit.bounds;
    paths = λ p is.
        let back = correspond.back p is in
        let met = fit.paths back.0 (room layered.problem p) back.1.1 in
        let same = correspond.one p met.items back.0 is met.is_path back.1.0 met.stands in
        subst (λ (x : Path). sum_along (budget_in budgets) x.items ≤ℤ room layered.problem p) (sym same) met.within;
  }

  pub AreBestOfDesign-from_best : (budgets : List ℤ) → AreBest layered.problem budgets → AreBestOfDesign w layered budgets
  AreBestOfDesign-from_best budgets best = record {
    fit = FitDesign-from_fit budgets best.fit;
    most = λ others fit. best.most others (Fit-from_design others fit);
  }

  pub AreBest-from_design : (budgets : List ℤ) → AreBestOfDesign w layered budgets → AreBest layered.problem budgets
  AreBest-from_design budgets best = record {
    fit = Fit-from_design budgets best.fit;
    most = λ others fit. best.most others (FitDesign-from_fit others fit);
  }

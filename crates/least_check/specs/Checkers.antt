-- What a check holds.
use Rattle.std.specs.Prelude.{◌≡◌, ℕ, ◌≤◌, length}
use Rattle.bud_base.specs.Paths.{Path}
use Rattle.bud_base.specs.declared.problems.Problem.{Problem}

-- how many nodes and items there is room for, and the path that was kept last
pub record Checker : Type 0 where
  pub nodes : ℕ
  pub items : ℕ
  pub path : Path

pub record FitsSizes (check : Checker) (p : Problem) : Type 0 where
  pub nodes : p.nodes ≤ check.nodes
  pub items : length p.items ≤ check.items

pub record KeepsSizes (old new : Checker) : Type 0 where
  pub nodes : new.nodes ≡ old.nodes
  pub items : new.items ≡ old.items

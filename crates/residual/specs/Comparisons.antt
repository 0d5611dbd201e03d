-- Arcs that are those of a problem.
use Rattle.std.specs.Prelude.{◌≡◌, ℕ, ◌+◌, ◌<◌, List, length}
use Rattle.residual.specs.Arcs.{arc_at}
use Rattle.residual.specs.Bounds.{IsSmall}
use Rattle.residual.specs.declared.arcs.Arc.{Arc}

-- so many arcs from number `first` on are these
abbrev pub AreFrom : List Arc → ℕ → ℕ → (ℕ → Arc) → Type 0
AreFrom arcs first count these = (k : ℕ) → k < count → arc_at arcs (first + k) ≡ these k

abbrev pub HaveSmallCosts : List Arc → Type 0
HaveSmallCosts arcs = (j : ℕ) → j < length arcs → IsSmall (arc_at arcs j).cost

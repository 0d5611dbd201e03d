-- Arrivals with which a network can begin.
use Rattle.std.specs.Prelude.{◌≡◌, ℤ, pos, ◌+◌, List, length}
use Rattle.bud_base.specs.Paths.{least_of}
use Rattle.bud_base.specs.declared.problems.Problem.{Problem}
use Rattle.bud_flow.specs.Arrivals.{Suit}
use Rattle.bud_flow.specs.Sums.{number_at}

-- a time for each node, which suit the problem at least delays, and 0 for the root
pub record AreFirstTimes (p : Problem) (times : List ℤ) : Type 0 where
  pub size : length times ≡ p.nodes + 1
  pub root : number_at times p.nodes ≡ pos 0
  pub suit : Suit p (least_of p) (number_at times)

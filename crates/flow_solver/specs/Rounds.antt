-- Rounds of searching and pushing.
use Rattle.std.specs.Prelude.{◌≡◌, ℕ, pos, ◌+ℤ◌, ◌<◌, ◌≤ℤ◌, ◌^◌, false, length}
use Rattle.bud_flow.specs.Sums.{number_at}
use Rattle.residual.specs.Networks.{Network, IsLawful}
use Rattle.residual.specs.Balances.{surplus}
use Rattle.flow_solver.specs.Pushes.{SameNetwork}

-- no flow, with all the surplus, is past 2^43
abbrev pub HasSlack : Network → Type 0
HasSlack net = (j : ℕ) → j < length net.arcs → (number_at net.flows j +ℤ surplus net) ≤ℤ pos (2 ^ 43)

-- some rounds are done; every network is lawful, which its calls tell
pub record AreRounds (old new : Network) : Type 0 where
  pub same : SameNetwork old new
  pub closed : new.is_open ≡ false
  pub slack : IsLawful new → HasSlack new
  pub fallen : surplus new ≤ℤ surplus old

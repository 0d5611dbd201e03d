-- The end of the least slack.
use Rattle.std.specs.Prelude.{◌≡◌, ℕ, ℤ, ◌-ℤ◌, ◌≤ℤ◌, ◌<◌, Option, Some, None, List, int_le, if◌then◌else◌, IsSomeAnd}
use Rattle.bud_base.specs.Paths.{end_at}
use Rattle.bud_base.specs.declared.problems.Problem.{Problem}
use Rattle.least_check.specs.Arrivals.{arrival_at, ArrivesFrom}
use Rattle.least_check.specs.declared.arrivals.Arrival.{Arrival}
use Rattle.least_check.specs.declared.worst_ends.WorstEnd.{WorstEnd}

-- the one of less slack, and the held one where the two have the same
abbrev pub worse_of : Option WorstEnd → WorstEnd → WorstEnd
worse_of None new = new
worse_of (Some held) new = if int_le held.slack new.slack then held else new

-- whatever arrives at the end leaves at least this slack
abbrev pub Leaves : Problem → List (Option Arrival) → ℤ → ℕ → Type 0
Leaves p arrivals s e = (t : ℤ) → ArrivesFrom t (arrival_at arrivals (end_at p.ends e).node.0) → s ≤ℤ ((end_at p.ends e).require -ℤ t)

-- the end is one of the first `count`, its arrival leaves its slack, and no arrival at one of those leaves less
pub record IsWorst (p : Problem) (count : ℕ) (arrivals : List (Option Arrival)) (worst : WorstEnd) : Type 0 where
  pub within : worst.end < count
  pub slack : IsSomeAnd (arrival_at arrivals (end_at p.ends worst.end).node.0) (λ a. (end_at p.ends worst.end).require -ℤ a.time ≡ worst.slack)
  pub least : (e : ℕ) → e < count → Leaves p arrivals worst.slack e

-- the worst of the first `count` ends, or none where nothing arrives at them
abbrev pub IsWorstEnd : Problem → ℕ → List (Option Arrival) → Option WorstEnd → Type 0
IsWorstEnd p count arrivals None = (e : ℕ) → e < count → arrival_at arrivals (end_at p.ends e).node.0 ≡ None
IsWorstEnd p count arrivals (Some worst) = IsWorst p count arrivals worst

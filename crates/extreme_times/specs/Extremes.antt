-- Times that suit starts and items, or items and ends, each by a cause.
use Rattle.std.specs.Prelude.{◌≡◌, ℕ, ◌<◌, ℤ, List, length}
use Rattle.bud_base.specs.declared.problems.Problem.{Problem}
use Rattle.bud_base.specs.Arrivals.{FollowDelays, FollowStarts, MeetEnds}
use Rattle.bud_base.specs.Paths.{least_of}
use Rattle.bud_flow.specs.Sums.{number_at}
use Rattle.extreme_times.specs.Causes.{HasEarlyCause, HasLateCause}

pub record AreEarly (p : Problem) (times : List ℤ) : Type 0 where
  pub size : length times ≡ p.nodes
  pub items : FollowDelays p.items (least_of p) (number_at times)
  pub starts : FollowStarts p.starts (number_at times)
  pub causes : (n : ℕ) → n < p.nodes → HasEarlyCause p times n

pub record AreLate (p : Problem) (times : List ℤ) : Type 0 where
  pub size : length times ≡ p.nodes
  pub items : FollowDelays p.items (least_of p) (number_at times)
  pub ends : MeetEnds p.ends (number_at times)
  pub causes : (n : ℕ) → n < p.nodes → HasLateCause p times n

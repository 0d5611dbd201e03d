-- A path to an arrival.
use Rattle.std.specs.Prelude.{◌≡◌, ℕ, ◌+ℤ◌, ◌<◌, Option, List, length, IsSomeAnd}
use Rattle.bud_base.specs.Paths.{Joins, start_at, sum_along, least_of}
use Rattle.bud_base.specs.declared.ids.ItemId.{ItemId}
use Rattle.bud_base.specs.declared.problems.Problem.{Problem}
use Rattle.least_check.specs.Arrivals.{arrival_at}
use Rattle.least_check.specs.declared.arrivals.Arrival.{Arrival}

-- the items lead from the start to the node, and the start's offset and their least delays add up to the arrival's time
pub record IsTrace (p : Problem) (arrivals : List (Option Arrival)) (node start : ℕ) (items : List ItemId) : Type 0 where
  pub within : start < length p.starts
  pub joined : Joins p.items (start_at p.starts start).node.0 items node
  pub sum : IsSomeAnd (arrival_at arrivals node) (λ a. (start_at p.starts start).offset +ℤ sum_along (least_of p) items ≡ a.time)

-- Arrivals that a sweep over the nodes raises until they suit the least delays.
use Rattle.std.specs.Prelude.{◌≡◌, ℕ, ℤ, pos, negsuc, ◌+◌, ◌<◌, ◌+ℤ◌, ◌≤ℤ◌, Option, List, length, slice_set, int_lt, if◌then◌else◌}
use Rattle.bud_base.specs.Paths.{Joins, item_at, start_at, sum_along, least_of}
use Rattle.bud_base.specs.Orders.{node_at}
use Rattle.bud_base.specs.Leaving.{leaving_from}
use Rattle.bud_base.specs.declared.ids.NodeId.{NodeId}
use Rattle.bud_base.specs.declared.ids.ItemId.{ItemId}
use Rattle.bud_base.specs.declared.problems.Problem.{Problem}
use Rattle.bud_flow.specs.Sums.{number_at}
use Rattle.bud_flow.specs.Arrivals.{SuitsItem, SuitsStart}

-- the arrival of the node is at least the time, and the others are as before
abbrev pub raised : List ℤ → ℕ → ℤ → List ℤ
raised arrivals v time = if int_lt (number_at arrivals v) time then slice_set arrivals v time else arrivals

-- some start and items from there to the node take at least to the time
pub record IsReachedAt (p : Problem) (v : ℕ) (time : ℤ) : Type 0 where
  pub start : ℕ
  pub items : List ItemId
  pub within : start < length p.starts
  pub joined : Joins p.items (start_at p.starts start).node.0 items v
  pub late : time ≤ℤ ((start_at p.starts start).offset +ℤ sum_along (least_of p) items)

-- there is an arrival for each node, none earlier than any start and none later than its node is reached, and 0 for the root
pub record AreReached (p : Problem) (arrivals : List ℤ) : Type 0 where
  pub size : length arrivals ≡ p.nodes + 1
  pub root : number_at arrivals p.nodes ≡ pos 0
  pub early : (v : ℕ) → v < p.nodes → negsuc 1999999999999 ≤ℤ number_at arrivals v
  pub reached : (v : ℕ) → v < p.nodes → IsReachedAt p v (number_at arrivals v)

-- no arrival falls
pub record Rise (old new : List ℤ) : Type 0 where
  pub each : (v : ℕ) → number_at old v ≤ℤ number_at new v

-- the arrivals suit the items that leave the nodes at places below k
pub record SuitBefore (p : Problem) (order : List NodeId) (arrivals : List ℤ) (k : ℕ) : Type 0 where
  pub each : (i j : ℕ) → i < length p.items → j < k → (item_at p.items i).from.0 ≡ node_at order j → SuitsItem p (least_of p) (number_at arrivals) i

-- the items of the node at place k are relaxed up to its next one
pub record AreRelaxed (p : Problem) (order : List NodeId) (k : ℕ) (old new : List ℤ) (first : Option ItemId) : Type 0 where
  pub reached : AreReached p new
  pub rise : Rise old new
  pub before : SuitBefore p order new k
  pub low : ℕ
  pub next : first ≡ leaving_from p.items (node_at order k) low
  pub here : (i : ℕ) → i < low → i < length p.items → (item_at p.items i).from.0 ≡ node_at order k → SuitsItem p (least_of p) (number_at new) i

-- the arrivals suit the starts below number k
pub record SuitStarts (p : Problem) (arrivals : List ℤ) (k : ℕ) : Type 0 where
  pub each : (s : ℕ) → s < k → s < length p.starts → SuitsStart p (number_at arrivals) s

-- The latest arrivals at the nodes of a problem.
use Rattle.std.specs.Prelude.{◌≡◌, ℕ, ℤ, pos, negsuc, ◌+◌, ◌*◌, ◌+ℤ◌, ◌≤ℤ◌, ◌<◌, ◌≤◌, Option, Some, None, List, length, slice_index_or, int_le, if◌then◌else◌, IfSome, IsSomeAnd}
use Rattle.bud_base.specs.Paths.{item_at, start_at}
use Rattle.bud_base.specs.Orders.{IsOrder}
use Rattle.bud_base.specs.declared.ids.NodeId.{NodeId}
use Rattle.bud_base.specs.declared.problems.Problem.{Problem}
use Rattle.least_check.specs.declared.arrivals.Arrival.{Arrival}
use Rattle.least_check.specs.declared.arrivals.Cause.{Cause}
use Rattle.least_check.specs.declared.arrivals.Cause.TheVariants.{OfStart, OfItem}

-- the arrival at the node of this number, where there is one
abbrev pub arrival_at : List (Option Arrival) → ℕ → Option Arrival
arrival_at arrivals n = slice_index_or arrivals n None

-- the later of the two, or the held one where they are at one time
abbrev pub later : Option Arrival → Arrival → Arrival
later None new = new
later (Some held) new = if int_le new.time held.time then held else new

-- there is an arrival, at this time or later
abbrev pub ArrivesFrom : ℤ → Option Arrival → Type 0
ArrivesFrom t o = IsSomeAnd o (λ a. t ≤ℤ a.time)

-- the time is no sooner than the least offset and no later than `high`
abbrev pub IsBetween : ℤ → Arrival → Type 0
IsBetween high a = (negsuc 1999999999999 ≤ℤ a.time) × (a.time ≤ℤ high)

-- the start is at the node, and its offset is the time
pub record IsOfStart (p : Problem) (n : ℕ) (t : ℤ) (s : ℕ) : Type 0 where
  pub within : s < length p.starts
  pub node : (start_at p.starts s).node.0 ≡ n
  pub offset : (start_at p.starts s).offset ≡ t

-- the item leads to the node from one at a place up to `reach`, and the time is its least delay after the arrival there
pub record IsOfItem (p : Problem) (place : ℕ → ℕ) (reach : ℕ) (arrivals : List (Option Arrival)) (n : ℕ) (t : ℤ) (i : ℕ) : Type 0 where
  pub within : i < length p.items
  pub node : (item_at p.items i).to.0 ≡ n
  pub before : place (item_at p.items i).from.0 ≤ reach
  pub sum : IsSomeAnd (arrival_at arrivals (item_at p.items i).from.0) (λ b. b.time +ℤ (item_at p.items i).least ≡ t)

-- a start is the cause of an arrival at the node at this time
abbrev pub IsStartCause : Problem → ℕ → ℤ → Cause → Type 0
IsStartCause p n t (OfStart s) = IsOfStart p n t s
IsStartCause p n t (OfItem i) = ⊥

-- a start or an item is the cause of an arrival at the node at this time
abbrev pub IsCause : Problem → (ℕ → ℕ) → ℕ → List (Option Arrival) → ℕ → ℤ → Cause → Type 0
IsCause p place reach arrivals n t (OfStart s) = IsOfStart p n t s
IsCause p place reach arrivals n t (OfItem i) = IsOfItem p place reach arrivals n t i.0

-- there is an arrival where the start is, at its offset or later
abbrev pub IsStarted : Problem → List (Option Arrival) → ℕ → Type 0
IsStarted p arrivals s = ArrivesFrom (start_at p.starts s).offset (arrival_at arrivals (start_at p.starts s).node.0)

-- whenever there is an arrival where the item begins there is one where it ends, later by its least delay or more
abbrev pub IsCarried : Problem → List (Option Arrival) → ℕ → Type 0
IsCarried p arrivals i =
    (t : ℤ) → ArrivesFrom t (arrival_at arrivals (item_at p.items i).from.0)
    → ArrivesFrom (t +ℤ (item_at p.items i).least) (arrival_at arrivals (item_at p.items i).to.0)

-- the latest arrivals of the starts below number `count` alone
pub record AreOfStarts (p : Problem) (count : ℕ) (arrivals : List (Option Arrival)) : Type 0 where
  pub room : p.nodes ≤ length arrivals
  pub started : (s : ℕ) → s < count → IsStarted p arrivals s
  pub caused : (n : ℕ) → IfSome (arrival_at arrivals n) (λ a. IsStartCause p n a.time a.cause)
  pub bounded : (n : ℕ) → IfSome (arrival_at arrivals n) (IsBetween (pos 2000000000000))

-- the latest arrivals of the starts and the items that leave the nodes before this place of the order
pub record IsSweep (p : Problem) (order : List NodeId) (place : ℕ) (arrivals : List (Option Arrival)) : Type 0 where
  pub is_order : IsOrder p.nodes p.items order
  pub room : p.nodes ≤ length arrivals
  pub started : (s : ℕ) → s < length p.starts → IsStarted p arrivals s
  pub carried : (i : ℕ) → i < length p.items → is_order.place (item_at p.items i).from.0 < place → IsCarried p arrivals i
  pub caused : (n : ℕ) → IfSome (arrival_at arrivals n) (λ a. IsCause p is_order.place place arrivals n a.time a.cause)
  pub bounded : (n : ℕ) → IfSome (arrival_at arrivals n) (IsBetween (pos (2000000000000 + 2000000000 * is_order.place n)))

-- the latest arrivals of all starts and items
pub record IsSwept (p : Problem) (arrivals : List (Option Arrival)) : Type 0 where
  pub order : List NodeId
  pub sweep : IsSweep p order p.nodes arrivals

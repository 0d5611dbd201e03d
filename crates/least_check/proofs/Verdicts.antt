-- From arrivals and traces to slacks of paths.
use Rattle.std.proofs.Common.{◌≡◌, ℕ, ℤ, ◌+ℤ◌, ◌-ℤ◌, ◌<◌, List, [], ◌∷◌, length, Option, Some, None, arith, subst, IsSomeAnd}
use Rattle.std.proofs.lemmas.Int.{ints}
use Rattle.bud_base.specs.Paths.{Joins, Path, IsPath, IsPathOfSlack, IsLeastSlack, HasNoPath, item_at, start_at, end_at, sum_along, least_of}
use Rattle.bud_base.specs.Soundness.{IsSound}
use Rattle.bud_base.specs.declared.ids.ItemId.{ItemId}
use Rattle.bud_base.specs.declared.problems.Problem.{Problem}
use Rattle.least_check.specs.Arrivals.{arrival_at, ArrivesFrom, IsCarried, IsSwept}
use Rattle.least_check.specs.Traces.{IsTrace}
use Rattle.least_check.specs.WorstEnds.{IsWorst, IsWorstEnd}
use Rattle.least_check.specs.declared.arrivals.Arrival.{Arrival}
use Rattle.least_check.specs.declared.worst_ends.WorstEnd.{WorstEnd}

-- every item is carried on
IsSwept-carried : (p : Problem) (arrivals : List (Option Arrival)) → IsSound p → IsSwept p arrivals → (i : ℕ) → i < length p.items → IsCarried p arrivals i
IsSwept-carried p arrivals sound swept i within =
    swept.sweep.carried i within (swept.sweep.is_order.placed (item_at p.items i).from.0 (sound.items i (item_at [] 0) within).from)

-- over items that join up a signal arrives at the end by the sum of their delays or later
arrives_along : (p : Problem) (arrivals : List (Option Arrival)) → ((i : ℕ) → i < length p.items → IsCarried p arrivals i)
    → (a : ℕ) (is : List ItemId) (b : ℕ) (t : ℤ) → Joins p.items a is b → ArrivesFrom t (arrival_at arrivals a)
    → ArrivesFrom (t +ℤ sum_along (least_of p) is) (arrival_at arrivals b)
arrives_along p arrivals carried a [] b t joined arrives = rw (← joined) (subst (λ (s : ℤ). ArrivesFrom s (arrival_at arrivals a)) (omega (arith, ints)) arrives)
arrives_along p arrivals carried a (i ∷ is) b t joined arrives =
    let on = carried i.0 joined.0 t (rw joined.1 arrives) in
    let rest = arrives_along p arrivals carried (item_at p.items i.0).to.0 is b (t +ℤ (item_at p.items i.0).least) joined.2 on in
    subst (λ (s : ℤ). ArrivesFrom s (arrival_at arrivals b)) (omega (arith, ints)) rest

-- at the end of a path a signal arrives by its start's offset and the sum of its delays or later
arrives_at_end : (p : Problem) (arrivals : List (Option Arrival)) → IsSound p → IsSwept p arrivals → (path : Path) → IsPath p path
    → ArrivesFrom ((start_at p.starts path.start).offset +ℤ sum_along (least_of p) path.items) (arrival_at arrivals (end_at p.ends path.end).node.0)
arrives_at_end p arrivals sound swept path is_path =
    arrives_along p arrivals (IsSwept-carried p arrivals sound swept) (start_at p.starts path.start).node.0 path.items (end_at p.ends path.end).node.0
    (start_at p.starts path.start).offset is_path.joined (swept.sweep.started path.start is_path.start)

-- where nothing arrives at an end there is no path
pub HasNoPath-none : (p : Problem) (arrivals : List (Option Arrival)) → IsSound p → IsSwept p arrivals → IsWorstEnd p (length p.ends) arrivals None → HasNoPath p
HasNoPath-none p arrivals sound swept none path is_path =
    subst (ArrivesFrom ((start_at p.starts path.start).offset +ℤ sum_along (least_of p) path.items)) (none path.end is_path.end) (arrives_at_end p arrivals sound swept path is_path)

adds_up : (offset sum require s : ℤ) (o : Option Arrival) → IsSomeAnd o (λ a. offset +ℤ sum ≡ a.time) → IsSomeAnd o (λ a. require -ℤ a.time ≡ s)
    → (require -ℤ offset) -ℤ sum ≡ s
adds_up offset sum require s None none _ = absurd none
adds_up offset sum require s (Some a) there left = omega (arith, ints)

-- a path traced back from the worst end has its slack
pub IsPathOfSlack-trace : (p : Problem) (arrivals : List (Option Arrival)) (worst : WorstEnd) (start : ℕ) (items : List ItemId) → IsWorst p (length p.ends) arrivals worst
    → IsTrace p arrivals (end_at p.ends worst.end).node.0 start items → IsPathOfSlack p worst.slack (record { start = start; items = items; end = worst.end })
IsPathOfSlack-trace p arrivals worst start items is_worst trace = record {
  is_path = record { start = trace.within; end = is_worst.within; joined = trace.joined };
  has_slack = adds_up (start_at p.starts start).offset (sum_along (least_of p) items) (end_at p.ends worst.end).require worst.slack
      (arrival_at arrivals (end_at p.ends worst.end).node.0) trace.sum is_worst.slack;
}

-- and no path has less
pub IsLeastSlack-worst : (p : Problem) (arrivals : List (Option Arrival)) (worst : WorstEnd) (path : Path) → IsSound p → IsSwept p arrivals
    → IsWorst p (length p.ends) arrivals worst → IsPathOfSlack p worst.slack path → IsLeastSlack p worst.slack
IsLeastSlack-worst p arrivals worst path sound swept is_worst has = record {
  attained = (path, has);
  least = λ other is_path.
      let leaves = is_worst.least other.end is_path.end ((start_at p.starts other.start).offset +ℤ sum_along (least_of p) other.items)
      (arrives_at_end p arrivals sound swept other is_path) in
      omega (arith, ints, leaves);
}

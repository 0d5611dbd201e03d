-- The parts of a problem's check, and how each answers.
use Rattle.std.specs.Prelude.{◌≡◌, ℕ, ◌<◌, Some, None, Result, Ok, Err, length}
use Rattle.bud_base.specs.Leaving.{AreLinks}
use Rattle.bud_base.specs.OrderLists.{OrderLists, FitsRoom}
use Rattle.bud_base.specs.Orders.{IsOrder, IsCycle, IsLive}
use Rattle.bud_base.specs.Soundness.{first_bad_node, first_bad_bounds, first_bad_time, first_passed_limit, IsInRange}
use Rattle.bud_base.specs.declared.problems.Problem.{Problem}
use Rattle.bud_base.specs.declared.checks.ProblemFault.{ProblemFault}
use Rattle.bud_base.specs.declared.checks.ProblemFault.TheVariants.{BadNode, BadBounds, BadTime, TooLarge, Cycle, Dead, NoMemory}

-- the refusals by a number that is out of its range
abbrev pub IsRangeAnswer : Problem → Result (Unit {0}) ProblemFault → Type 0
IsRangeAnswer p (Ok _) = IsInRange p
IsRangeAnswer p (Err (BadNode n)) = first_bad_node p ≡ Some n
IsRangeAnswer p (Err (BadBounds i)) = (first_bad_node p ≡ None) × (first_bad_bounds p.items ≡ Some i)
IsRangeAnswer p (Err (BadTime n)) = (first_bad_node p ≡ None) × (first_bad_bounds p.items ≡ None) × (first_bad_time p ≡ Some n)
IsRangeAnswer p (Err (TooLarge count)) =
    (first_bad_node p ≡ None) × (first_bad_bounds p.items ≡ None) × (first_bad_time p ≡ None) × (first_passed_limit p ≡ Some count)
IsRangeAnswer p (Err (Cycle items)) = ⊥
IsRangeAnswer p (Err (Dead n)) = ⊥
IsRangeAnswer p (Err NoMemory) = ⊥

-- an order of the problem's nodes, with the links of its items
pub record OrdersNodes (p : Problem) (lists : OrderLists) : Type 0 where
  pub in_order : IsOrder p.nodes p.items lists.order
  pub linked : AreLinks p.items lists.links
  pub room : FitsRoom lists p.nodes (length p.items)

abbrev pub IsOrderAnswer : Problem → Result OrderLists ProblemFault → Type 0
IsOrderAnswer p (Ok lists) = OrdersNodes p lists
IsOrderAnswer p (Err (BadNode n)) = ⊥
IsOrderAnswer p (Err (BadBounds i)) = ⊥
IsOrderAnswer p (Err (BadTime n)) = ⊥
IsOrderAnswer p (Err (TooLarge count)) = ⊥
IsOrderAnswer p (Err (Cycle items)) = IsCycle p.items items
IsOrderAnswer p (Err (Dead n)) = ⊥
IsOrderAnswer p (Err NoMemory) = Unit {0}

abbrev pub IsLiveAnswer : Problem → Result (Unit {0}) ProblemFault → Type 0
IsLiveAnswer p (Ok _) = (n : ℕ) → n < p.nodes → IsLive p n
IsLiveAnswer p (Err (BadNode n)) = ⊥
IsLiveAnswer p (Err (BadBounds i)) = ⊥
IsLiveAnswer p (Err (BadTime n)) = ⊥
IsLiveAnswer p (Err (TooLarge count)) = ⊥
IsLiveAnswer p (Err (Cycle items)) = ⊥
IsLiveAnswer p (Err (Dead n)) = (n.0 < p.nodes) × (IsLive p n.0 → ⊥) × ((m : ℕ) → m < n.0 → IsLive p m)
IsLiveAnswer p (Err NoMemory) = Unit {0}

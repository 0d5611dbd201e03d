-- When a problem is sound, and how `check` answers.
use Rattle.std.specs.Prelude.{◌≡◌, ℕ, ℤ, pos, negsuc, ◌≤ℤ◌, ◌<◌, ◌≤◌, ◌++◌, ◌||◌, ◌&&◌, Bool, Option, Some, None, Result, Ok, Err, List, [], ◌∷◌, length, map, find, nat_le, nat_lt, int_le, not, All, if◌then◌else◌}
use Rattle.std.specs.List.{position_from, flat_map}
use Rattle.std.specs.Option.{option_map, option_or}
use Rattle.bud_base.specs.Orders.{HasOrder, IsCycle, IsLive}
use Rattle.bud_base.specs.declared.ids.NodeId.{NodeId}
use Rattle.bud_base.specs.declared.ids.ItemId.{ItemId}
use Rattle.bud_base.specs.declared.problems.Item.{Item}
use Rattle.bud_base.specs.declared.problems.Start.{Start}
use Rattle.bud_base.specs.declared.problems.End.{End}
use Rattle.bud_base.specs.declared.problems.Problem.{Problem}
use Rattle.bud_base.specs.declared.checks.ProblemFault.{ProblemFault}
use Rattle.bud_base.specs.declared.checks.ProblemFault.TheVariants.{BadNode, BadBounds, BadTime, TooLarge, Cycle, Dead, NoMemory}

-- what holds of every problem that a program holds: each list has fewer than 2^31 elements
pub record IsListable (p : Problem) : Type 0 where
  pub items : length p.items < 2147483648
  pub starts : length p.starts < 2147483648
  pub ends : length p.ends < 2147483648

-- the item joins nodes of the problem, 0 <= least <= greatest <= 2*10^9 ps, and its weight is at most 2^20
pub record IsSoundItem (nodes : ℕ) (item : Item) : Type 0 where
  pub from : item.from.0 < nodes
  pub to : item.to.0 < nodes
  pub low : pos 0 ≤ℤ item.least
  pub between : item.least ≤ℤ item.greatest
  pub high : item.greatest ≤ℤ pos 2000000000
  pub weight : item.weight ≤ 1048576

-- the time is within 2*10^12 ps either way
pub record IsTime (time : ℤ) : Type 0 where
  pub low : negsuc 1999999999999 ≤ℤ time
  pub high : time ≤ℤ pos 2000000000000

pub record IsSoundStart (nodes : ℕ) (start : Start) : Type 0 where
  pub node : start.node.0 < nodes
  pub time : IsTime start.offset

pub record IsSoundEnd (nodes : ℕ) (end : End) : Type 0 where
  pub node : end.node.0 < nodes
  pub time : IsTime end.require

-- at most 2^22 items, and at most 2^23 nodes, starts and ends
pub record IsWithinLimits (p : Problem) : Type 0 where
  pub items : length p.items ≤ 4194304
  pub nodes : p.nodes ≤ 8388608
  pub starts : length p.starts ≤ 8388608
  pub ends : length p.ends ≤ 8388608

-- all numbers are in their ranges, the items follow some order of the nodes, and a path passes each node
pub record IsSound (p : Problem) : Type 0 where
  pub items : All (IsSoundItem p.nodes) p.items
  pub starts : All (IsSoundStart p.nodes) p.starts
  pub ends : All (IsSoundEnd p.nodes) p.ends
  pub limits : IsWithinLimits p
  pub order : HasOrder p
  pub live : (n : ℕ) → n < p.nodes → IsLive p n

-- the node numbers that an item, then the starts, then the ends name, in the order in which they stand
abbrev pub node_numbers : Problem → List ℕ
node_numbers p = flat_map (λ x. x.from.0 ∷ x.to.0 ∷ []) p.items ++ (map (λ s. s.node.0) p.starts ++ map (λ e. e.node.0) p.ends)

abbrev pub first_bad_node : Problem → Option ℕ
first_bad_node p = find (λ n. nat_le p.nodes n) (node_numbers p)

abbrev pub is_bounded : Item → Bool
is_bounded x = int_le (pos 0) x.least && int_le x.least x.greatest && int_le x.greatest (pos 2000000000) && nat_le x.weight 1048576

abbrev pub first_bad_bounds : List Item → Option ItemId
first_bad_bounds items = option_map (λ i. record { 0 = i }) (position_from (λ x. not (is_bounded x)) 0 items)

abbrev pub is_time : ℤ → Bool
is_time t = int_le (negsuc 1999999999999) t && int_le t (pos 2000000000000)

abbrev pub first_bad_time : Problem → Option NodeId
first_bad_time p =
    option_or
    (option_map (λ s. s.node) (find (λ s. not (is_time s.offset)) p.starts))
    (option_map (λ e. e.node) (find (λ e. not (is_time e.require)) p.ends))

-- the limit that is passed first, plus 1
abbrev pub first_passed_limit : Problem → Option ℕ
first_passed_limit p =
    if nat_lt 4194304 (length p.items) then Some 4194305
    else (if nat_lt 8388608 p.nodes || nat_lt 8388608 (length p.starts) || nat_lt 8388608 (length p.ends) then Some 8388609 else None)

-- no number is out of its range, and no limit is passed
pub record IsInRange (p : Problem) : Type 0 where
  pub nodes : first_bad_node p ≡ None
  pub bounds : first_bad_bounds p.items ≡ None
  pub times : first_bad_time p ≡ None
  pub limits : first_passed_limit p ≡ None

abbrev pub HasNoCycle : Problem → Type 0
HasNoCycle p = (items : List ItemId) → IsCycle p.items items → ⊥

-- the first of the refusals that holds, or that none does
abbrev pub IsCheckAnswer : Problem → Result (Unit {0}) ProblemFault → Type 0
IsCheckAnswer p (Ok _) = IsInRange p × HasNoCycle p × ((n : ℕ) → n < p.nodes → IsLive p n)
IsCheckAnswer p (Err (BadNode n)) = first_bad_node p ≡ Some n
IsCheckAnswer p (Err (BadBounds i)) = (first_bad_node p ≡ None) × (first_bad_bounds p.items ≡ Some i)
IsCheckAnswer p (Err (BadTime n)) = (first_bad_node p ≡ None) × (first_bad_bounds p.items ≡ None) × (first_bad_time p ≡ Some n)
IsCheckAnswer p (Err (TooLarge count)) = (first_bad_node p ≡ None) × (first_bad_bounds p.items ≡ None) × (first_bad_time p ≡ None) × (first_passed_limit p ≡ Some count)
IsCheckAnswer p (Err (Cycle items)) = IsInRange p × IsCycle p.items items
IsCheckAnswer p (Err (Dead n)) = IsInRange p × HasNoCycle p × (n.0 < p.nodes) × (IsLive p n.0 → ⊥) × ((m : ℕ) → m < n.0 → IsLive p m)
IsCheckAnswer p (Err NoMemory) = Unit {0}
